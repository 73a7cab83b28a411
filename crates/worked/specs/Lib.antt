pub mod SeveralRoads
pub mod WorkedMaps
pub mod WorkedQuery
pub mod WorkedTrip
pub mod LoopQuery
pub mod WorkedDrives
