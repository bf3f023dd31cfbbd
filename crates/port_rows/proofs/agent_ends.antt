mod Commanded
mod Fitting
mod Holding
mod Shown
