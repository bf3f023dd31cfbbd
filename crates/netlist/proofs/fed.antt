mod Feeding
mod Fitting
