-- No field so far says that the connection is closed.
use Rattle.std.proofs.Common.{◌≡◌, drop, map}
use Rattle.std.specs.List.{list_any}
use Rattle.httparse.specs.Spans.{header_bytes}
use Rattle.ll_wire.specs.Heads.{tells_close}
use Rattle.ll_wire.proofs.fields.any_tells_close.Given as goal

abbrev pub invariant-loop-field : goal.invariant-loop-field
invariant-loop-field l =
    list_any tells_close (map (header_bytes l.bytes) (drop l.field-index l.fields)) ≡ list_any tells_close (map (header_bytes l.bytes) l.fields)
