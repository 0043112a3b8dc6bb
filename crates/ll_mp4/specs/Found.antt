-- What the search for boxes of a type returns.
use Rattle.std.specs.Prelude.{ℕ, ◌==◌, List, Option, Some, None, Result, Ok, Err}
use Rattle.std.specs.Borrow.{Bor}
use Rattle.ll_mp4.specs.Boxes.{Contents, Ended, Broken, Content, Front, Nothing, Part, Whole, and_content, boxes, contents, contents_in}
use Rattle.ll_mp4.specs.declared.boxes.FoundBox.{FoundBox}
use Rattle.ll_mp4.specs.declared.fault.StreamFault.{StreamFault}
use Rattle.ll_mp4.specs.declared.fault.StreamFault.TheVariants.{BadBox}
use Rattle.ll_mp4.specs.declared.kind.Kind.{Kind}

-- the type and the content of a box, and the bytes after it
pub record Inner : Type 0 where
  pub kind : ℕ
  pub content : List ℕ
  pub rest : List ℕ

-- the front box of bytes in which only whole boxes are allowed
abbrev pub inner : Front → Result (Option Inner) StreamFault
inner Nothing = Ok None
inner (Part header) = Err BadBox
inner (Whole kind size content rest) = Ok (Some (record { kind = kind; content = content; rest = rest }))

abbrev pub found : Result (Option FoundBox) StreamFault → Result (Option Inner) StreamFault
found (Ok None) = Ok None
found (Ok (Some f)) = Ok (Some (record { kind = f.kind; content = f.content.now; rest = f.rest.now }))
found (Err fault) = Err fault

-- the contents of a type's boxes, from the front box on
abbrev pub from_inner : ℕ → Result (Option Inner) StreamFault → Contents
from_inner kind (Ok None) = Ended
from_inner kind (Ok (Some i)) = and_content (i.kind == kind) i.content (contents kind (boxes i.rest))
from_inner kind (Err fault) = Broken

-- the contents of a type's boxes, if this is the first of them and what follows it
abbrev pub from_next : Kind → Result (Option (Bor (List ℕ) × Bor (List ℕ))) StreamFault → Contents
from_next kind (Ok None) = Ended
from_next kind (Ok (Some pair)) = Content pair.0.now (contents_in kind pair.1.now)
from_next kind (Err fault) = Broken
