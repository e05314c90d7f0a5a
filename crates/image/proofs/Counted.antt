-- The lemma that the check takes up by itself where an image's sectors are counted.
use Rattle.image.specs.ImageSound.{length-sectors}

pub ruleset counted = (length-sectors)
