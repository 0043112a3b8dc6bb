-- The fields counted so far and those that follow are all fields.
use Rattle.std.proofs.Common.{◌≡◌, ◌+◌, ◌≤◌, drop, map, count_by}
use Rattle.httparse.specs.Spans.{header_bytes}
use Rattle.ll_wire.specs.Heads.{is_host}
use Rattle.ll_wire.proofs.fields.hosts.Given as goal

abbrev pub invariant-loop-field : goal.invariant-loop-field
invariant-loop-field l = record {
  counted : l.count + count_by is_host (map (header_bytes l.bytes) (drop l.field-index l.fields)) ≡ count_by is_host (map (header_bytes l.bytes) l.fields);
  few : l.count ≤ l.field-index;
}
