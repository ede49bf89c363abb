-- Headers that were worked out by hand.
use Rattle.std.specs.Prelude.{◌≡◌, Some, None, [], codes}
use Rattle.picture_in.specs.Header.{behind_header}

-- the header that most programs write
abbrev pub PlainWorked : Type 0
PlainWorked = behind_header (codes "P6\n600 600\n255\n!") ≡ Some (codes "!")

-- with a comment
abbrev pub CommentWorked : Type 0
CommentWorked = behind_header (codes "P6\n# made by hand\n600 600\n255\n") ≡ Some []

-- with leading zeros, and no white byte but the last
abbrev pub ZerosWorked : Type 0
ZerosWorked = behind_header (codes "P6#\n00600#600\n600#\n000255 ") ≡ Some []

-- a comment with no line feed
abbrev pub OpenCommentWorked : Type 0
OpenCommentWorked = behind_header (codes "P6 600 600 255#\n") ≡ None
