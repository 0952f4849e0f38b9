pub mod TextLaws
pub mod RunLaws
pub mod PrintedLaws
pub mod PrintedPieces
pub mod PiecesLaws
