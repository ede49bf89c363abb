pub mod EachPlace
