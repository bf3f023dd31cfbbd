mod Driving
mod PlaceLemmas
mod Shown
mod Standing
