mod Tested
mod Fractions
mod Equals
