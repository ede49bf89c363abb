pub mod Picture
pub mod PictureLaws
pub mod Board
pub mod Painting
pub mod Taking
