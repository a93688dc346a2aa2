mod Escapes
mod Filled
mod Grouped
mod Runs
