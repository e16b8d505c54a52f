-- Laws of lists of numbers, and of numbers as bytes.
mod Listing
mod Storing
