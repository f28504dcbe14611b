pub mod SeatsOnRing
