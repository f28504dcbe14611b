pub mod Readings
mod Tables
