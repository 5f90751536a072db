pub mod RolesStay
pub mod Lists
pub mod Pools
pub mod Counting
pub mod PutWhole
pub mod Replaced
pub mod FreshSteps
pub mod FunctionSteps
