mod Floats
mod Values
mod Reals
