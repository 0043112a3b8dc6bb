-- For private contracts: the directives of a query, read pair by pair.
use Rattle.std.specs.Prelude.{ℕ, List, Bool, ◌&&◌, ◌==◌, not, Option, Some, None, Result, Ok, Err, ok_or, option_and_then, option_map, fold, length, nat_le, codes}
use Rattle.std.specs.Char.{is_ascii_graphic}
use Rattle.std.specs.List.{list_all}
use Rattle.ll_attr.specs.Numbers.{number_in}
use Rattle.ll_directive.specs.Targets.{values_of, skip_in, awaited_of, ◌>>=◌}
use Rattle.ll_directive.specs.declared.fault.TargetFault.{TargetFault}
use Rattle.ll_directive.specs.declared.fault.TargetFault.TheVariants.{Double, BadMsn, BadPart, BadSkip}
use Rattle.ll_directive.specs.declared.want.Awaited.{Awaited}
use Rattle.ll_item.specs.declared.skip_kind.SkipKind.{SkipKind}
use Rattle.ll_directive.specs.declared.query.Few.{Few}
use Rattle.ll_directive.specs.declared.query.Few.TheVariants.{Zero, One, More}
use Rattle.ll_directive.specs.declared.query.Directives.{Directives}

-- a byte that a name or a value that means something can have: no space, and no `+`, which may stand for one
abbrev pub is_plain : ℕ → Bool
is_plain b = is_ascii_graphic b && not (b == 43)

-- whether a text is plain, and no longer than any name or value that means something
abbrev pub is_short : List ℕ → Bool
is_short text = list_all is_plain text && nat_le (length text) 20

abbrev pub with_one : {A : Type 0} → Few A → A → Few A
with_one Zero x = One x
with_one (One y) x = More
with_one More x = More

-- the values of a directive with one more, if that means something
abbrev pub with_value : {A : Type 0} → Option (Few A) → Option A → Option (Few A)
with_value told value = option_and_then (λ few. option_map (λ x. with_one few x) value) told

-- the values of a directive after more of them
abbrev pub told_by : {A : Type 0} → (List ℕ → Option A) → Option (Few A) → List (List ℕ) → Option (Few A)
told_by read told values = fold (λ t value. with_value t (read value)) told values

-- the same of each directive
abbrev pub told_after : Directives → List (List ℕ × List ℕ) → Directives
told_after d pairs = record {
  msn = told_by (number_in 20) d.msn (values_of (codes "_HLS_msn") pairs);
  part = told_by (number_in 20) d.part (values_of (codes "_HLS_part") pairs);
  skip = told_by skip_in d.skip (values_of (codes "_HLS_skip") pairs);
}

abbrev pub at_most_one_of : {A : Type 0} → Few A → Result (Option A) TargetFault
at_most_one_of Zero = Ok None
at_most_one_of (One x) = Ok (Some x)
at_most_one_of More = Err Double

-- what the directives ask for, or the first fault
abbrev pub settled : Directives → Result (Awaited × Option SkipKind) TargetFault
settled d = do
  msns ← ok_or d.msn BadMsn
  parts ← ok_or d.part BadPart
  skips ← ok_or d.skip BadSkip
  msn ← at_most_one_of msns
  part ← at_most_one_of parts
  skip ← at_most_one_of skips
  awaited ← awaited_of msn part
  Ok (awaited, skip)
