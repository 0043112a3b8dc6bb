-- What is written so far and the spelling of what is left are the whole.
use Rattle.std.proofs.Common.{◌≡◌, ◌++◌, drop, string_bytes}
use denote.Text.{Utf8}
use denote.Shadow.{shadow}
use Rattle.ll_attr.specs.Attributes.{spelling}
use Rattle.ll_attr.proofs.Written.{spelled_after}
use Rattle.ll_attr.proofs.attributes.AttrList.write.Given as goal

abbrev pub invariant-loop-attribute : goal.invariant-loop-attribute
invariant-loop-attribute l =
    shadow (Utf8 l.separator) × (string_bytes l.text ++ spelled_after l.separator (drop l.attribute-index l.self) ≡ spelling l.self)
