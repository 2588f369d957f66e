mod Beginnings
pub mod Alike
pub mod Keys
pub mod OnTheWay
pub mod Placing
pub mod Reported
