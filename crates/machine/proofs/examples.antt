-- The worked examples, computed from the definitions.
pub mod ExampleHistories
mod ExampleOrders
pub mod ExamplePicking
mod ExampleRecalls
mod ExampleKeys
mod ExampleLimits
mod ExampleLeast
mod ExampleUrgent
