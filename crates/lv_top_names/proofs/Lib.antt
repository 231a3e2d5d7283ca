mod Pieces
mod Numbers
