pub mod Has
pub mod Given
