mod Names
mod Lists
mod Lengths
mod Fitting
