pub mod HeapOrder
pub mod Rearranging
pub mod PushedPopped
pub mod Rising
pub mod Sinking
