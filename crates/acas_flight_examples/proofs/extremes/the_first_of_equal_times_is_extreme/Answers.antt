use Rattle.acas_flight_examples.proofs.Level.{high_alone, high_at_one, low_alone, low_at_one}
use Rattle.acas_flight_examples.proofs.extremes.the_first_of_equal_times_is_extreme.Goals as goal

pub returns : goal.returns
returns c = record { low = low_at_one; high = high_at_one; low_alone = low_alone; high_alone = high_alone }
