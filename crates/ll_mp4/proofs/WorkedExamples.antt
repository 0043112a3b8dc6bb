-- The worked examples, computed.
use Rattle.std.proofs.Common.{refl}
use Rattle.ll_mp4.specs.Kinds.{code}
use Rattle.ll_mp4.specs.Worked.{WorkedElements, WorkedIndex, WorkedStream}

elements : WorkedElements
unfolding code
elements = record {
  a_movie = refl;
  another_movie = refl;
  of_both = refl;
  of_sound = refl;
  no_time = refl;
  own = refl;
  of_later_sound = refl;
  of_sound_later = refl;
  untimed_sound = refl;
  alone = refl;
  no_movie = refl;
  before_first = refl;
  before_second = refl;
  unknown = refl;
  twice = refl;
  no_track = refl;
}

index : WorkedIndex
unfolding code
index = record {
  between = refl;
  first_half = refl;
  dropped_half = refl;
  second_half = refl;
  large = refl;
  large_on = refl;
  torn = refl;
  amid = refl;
}

pub worked : WorkedStream
unfolding code
worked = record { elements = elements; whole = refl; no_box = refl; not_whole = refl; index = index }
