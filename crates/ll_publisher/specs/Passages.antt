-- For private contracts: what becomes of a line, as the code says it.
use Rattle.ll_publisher.specs.Doors.{Passage, Passes, Opens, Stays}
use Rattle.ll_publisher.specs.declared.door.Passage as code
use Rattle.ll_publisher.specs.declared.door.Passage.TheVariants as is

abbrev pub passage_of : code.Passage → Passage
passage_of is.Passes = Passes
passage_of (is.Opens place) = Opens place
passage_of (is.Stays place) = Stays place
