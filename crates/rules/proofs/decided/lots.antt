-- Lots held, released and recalled.
pub mod HoldDecided
pub mod ReleaseDecided
pub mod RecallDecided
