mod Directed
mod Fitting
mod Lists
mod Numbered
mod PortLaws
mod Tabled
mod WholeLaws
