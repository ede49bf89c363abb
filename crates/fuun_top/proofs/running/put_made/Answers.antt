use Rattle.fuun_top.proofs.running.put_made.Goals as goal

pub returns-in-Rna-clause-wrote : goal.returns-in-Rna-clause-wrote
returns-in-Rna-clause-wrote g c = rw c.in-Rna.is c.put_rna.ensures.wrote

pub returns-in-Image-clause-wrote : goal.returns-in-Image-clause-wrote
returns-in-Image-clause-wrote g c = rw c.in-Image.is c.put_image.ensures.wrote

pub returns-in-Dna-clause-wrote : goal.returns-in-Dna-clause-wrote
returns-in-Dna-clause-wrote g c = rw c.in-Dna.is c.put_dna.ensures.wrote
