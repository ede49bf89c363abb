use Rattle.fuun_top.proofs.ChainedPicture as pictures
use Rattle.fuun_top.proofs.laws.drawn_picture_is_same.Goals as goal

pub returns-clause-picture : goal.returns-clause-picture
returns-clause-picture c = pictures.drawn_picture_is_same

pub returns-clause-own : goal.returns-clause-own
returns-clause-own c = pictures.own_picture_is_same
