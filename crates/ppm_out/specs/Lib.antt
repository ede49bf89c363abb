pub mod Ppm
