mod Fitting
mod Shown
