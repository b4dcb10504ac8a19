pub mod Places
pub mod ReadWritten
pub mod LoadWritten
pub mod WriteLoaded
pub mod RoundTrip
