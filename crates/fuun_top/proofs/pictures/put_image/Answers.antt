use Rattle.fuun_top.proofs.WrittenOutput.{plain_image, wide_image}
use Rattle.fuun_top.proofs.pictures.put_image.Goals as goal

pub returns-in-Plain-clause-wrote : goal.returns-in-Plain-clause-wrote
returns-in-Plain-clause-wrote g c =
    rw c.in-Plain.is (plain_image c.args.machine.now.dna c.args.budget c.args.machine.now.limit _ _ _ _ _ (rw c.in-Plain.is at c.put_image_on.ensures.wrote))

pub returns-in-Wide-clause-wrote : goal.returns-in-Wide-clause-wrote
returns-in-Wide-clause-wrote g c =
    rw c.in-Wide.is (wide_image c.args.machine.now.dna c.args.budget c.args.machine.now.limit _ _ _ _ _ (rw c.in-Wide.is at c.put_image_on-in-Wide.ensures.wrote))
