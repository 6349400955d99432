-- Laws that the proof of `print` cites.
mod Printed
