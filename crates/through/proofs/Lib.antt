-- From what is read to what is written.
mod Whole
