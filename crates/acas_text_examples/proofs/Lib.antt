mod Only
mod Said
