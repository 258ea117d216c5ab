mod Writes
mod LinesOf
mod Sizes
mod Texts
mod Returns
