mod Calls
mod Numbers
mod Parts
mod Refusals
mod Works
