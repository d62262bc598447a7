mod WithinLimits
