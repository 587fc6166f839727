-- The samples of kinds 1 to 3, by computation. Assumes nothing.
use mathlib.Core.Path.{refl}
use Rattle.words.specs.Samples.{WordSamples}

pub word_samples : WordSamples
word_samples = record { below_four = refl; second_place = refl; first_word = refl; last_word = refl; counted = refl; often = refl; places = refl }
