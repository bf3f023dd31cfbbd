mod Fitting
mod Inputs
mod Shown
