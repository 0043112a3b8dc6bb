-- What is sent for pieces is read as their items.
use Rattle.std.proofs.Common.{◌≡◌, ℕ, ◌<◌, ◌≤◌, ◌^◌, Bool, List, [], ◌∷◌, ◌++◌, Option, Some, None, refl, ap, sym, ◌∙◌, append_assoc, append-nil, arith, if◌then◌else◌, length, map, not, ◌==◌, true, false}
use Rattle.std.proofs.lemmas.List.{map-append}
use Rattle.std.proofs.lemmas.List.Elements.{All-cons, All-head, All-nil, All-tail}
use Rattle.std.proofs.lemmas.Grind.{flat_map-append}
use Rattle.std.specs.List.{All}
use Rattle.ll_entry.specs.ItemLaws.{IsBreakTime, IsWritable}
use Rattle.ll_entry.proofs.ItemBack.{item_back}
use Rattle.ll_entry.proofs.Names.{name_at}
use Rattle.ll_item.specs.ItemLines.{item_line, name_of}
use Rattle.ll_item.specs.Items.{media_of}
use Rattle.ll_settings.specs.Names.{is_name}
use Rattle.ll_settings.specs.Settings.{Configuration, IsWithin}
use Rattle.ll_item.specs.declared.item.Item.{Item}
use Rattle.ll_item.specs.declared.item.Item.TheVariants.{Part, Init, Finish, Break, End}
use Rattle.ll_settings.proofs.WithinLimits.{within}
use Rattle.ll_mp4.specs.declared.fault.StreamFault.{StreamFault}
use Rattle.ll_parts.specs.Stream.{Outcome}
use Rattle.ll_parts.specs.declared.pieces.MediaPart.{MediaPart}
use Rattle.ll_parts.specs.declared.pieces.Piece.{Piece}
use Rattle.ll_parts.specs.declared.pieces.Piece.TheVariants as piece
use Rattle.ll_publish.specs.Line as says
use Rattle.ll_publish.specs.Lines.{at_line, front_of, lines}
use Rattle.ll_announce.specs.Courses.{begun, closing_messages, course_then, first_of, gap_time, last_texts, later_readings, messages, opening, opening_messages, spoken, texts}
use Rattle.ll_announce.specs.Messages.{MessageValue, Names, break_message, end_message, finish_message, init_message, part_message}
use Rattle.ll_announce.specs.declared.course.Course.{Course}
use Rattle.ll_push.specs.Exchanges.{bytes_of, text_of}
use Rattle.ll_laws.specs.Pushed.{IsThere, PiecesLaw, PushedLaw, closing_items, items_of, last_items, names_of, opening_items, read_as, read_by, read_in, spoken_items}
use Rattle.ll_laws.proofs.SentLines.{IsBare, bare-front, break-bare, end-bare, finish-bare, init-spelled, item-front, line-first, part-spelled, timed-break-bare}

-- all of two lists
all-parts : {A : Type 0} (P : A → Type 0) (xs ys : List A) → All P (xs ++ ys) → All P xs × All P ys
all-parts P [] ys h = (All-nil P, h)
all-parts P (x ∷ xs) ys h =
    let rest = all-parts P xs ys (All-tail P x (xs ++ ys) h) in (All-cons P x xs (All-head P x (xs ++ ys) h) rest.0, rest.1)

module _ (channels : List Configuration) (place : ℕ) (c : Configuration) (rendition : ℕ) (there : IsThere channels place c rendition) where
  abbrev names : Names
  names = names_of c rendition

  limits : IsWithin c
  limits = within c there.unbroken

  name : is_name (name_of c rendition) ≡ true
  name = name_at c.renditions rendition limits.renditions_named there.inside

  -- the line of an item of the rendition
  abbrev line_of : Item → says.Line
  line_of i = says.Item c.channel (item_line c i) (media_of i)

  line-read : (i : Item) → IsWritable c i → read_in channels (line_of i) ≡ read_as place i
  line-read i h = ap (λ f. read_by f (item_line c i) (media_of i)) there.found ∙ ap (λ r. Some (place, r)) (item_back c i there.unbroken h).0

  -- a message, and what comes after it
  first-read : (text more : List ℕ) (i : Item) → front_of text ≡ (Some (line_of i), at_line []) → IsWritable c i
      → map (read_in channels) (lines (text ++ more)) ≡ read_as place i ∷ map (read_in channels) (lines more)
  first-read text more i e h =
      ap (map (read_in channels)) (line-first text more (line_of i) e) ∙ ap (λ r. r ∷ map (read_in channels) (lines more)) (line-read i h)

  init-first : (section more : List ℕ) → IsWritable c (Init rendition section)
      → map (read_in channels) (lines ((init_message names section).bytes ++ more)) ≡ read_as place (Init rendition section) ∷ map (read_in channels) (lines more)
  init-first section more h =
      first-read (init_message names section).bytes more (Init rendition section)
      (item-front c.channel (item_line c (Init rendition section)) section limits.channel_named (init-spelled (name_of c rendition) name) h.1) h

  abbrev part_item : MediaPart → Item
  part_item part = Part (record { rendition = rendition; duration = part.duration; independent = part.independent; finish = part.finishes; media = part.bytes })

  part-first : (part : MediaPart) (more : List ℕ) → IsWritable c (part_item part)
      → map (read_in channels) (lines ((part_message names part).bytes ++ more)) ≡ read_as place (part_item part) ∷ map (read_in channels) (lines more)
  part-first part more h =
      first-read (part_message names part).bytes more (part_item part)
      (item-front c.channel (item_line c (part_item part)) part.bytes limits.channel_named
      (part-spelled (name_of c rendition) part.duration part.independent part.finishes name h.1) h.2) h

  finish-first : (more : List ℕ) → IsWritable c (Finish rendition)
      → map (read_in channels) (lines ((finish_message names).bytes ++ more)) ≡ read_as place (Finish rendition) ∷ map (read_in channels) (lines more)
  finish-first more h =
      first-read (finish_message names).bytes more (Finish rendition)
      (bare-front c.channel (item_line c (Finish rendition)) limits.channel_named (finish-bare (name_of c rendition) name)) h

  break-bare-by : (time : Option ℕ) → IsBreakTime time → IsBare (item_line c (Break rendition time))
  break-bare-by None h = break-bare (name_of c rendition) name
  break-bare-by (Some ms) h = timed-break-bare (name_of c rendition) ms name (omega (arith, h))

  break-first : (time : Option ℕ) (more : List ℕ) → IsWritable c (Break rendition time)
      → map (read_in channels) (lines ((break_message names time).bytes ++ more)) ≡ read_as place (Break rendition time) ∷ map (read_in channels) (lines more)
  break-first time more h =
      first-read (break_message names time).bytes more (Break rendition time)
      (bare-front c.channel (item_line c (Break rendition time)) limits.channel_named (break-bare-by time h.1)) h

  end-read : map (read_in channels) (lines ((end_message names).bytes ++ [])) ≡ read_as place (End rendition) ∷ []
  end-read = first-read (end_message names).bytes [] (End rendition) (bare-front c.channel (item_line c (End rendition)) limits.channel_named (end-bare (name_of c rendition) name)) there.inside

  -- what is read of messages one after another, if a line can spell their items
  abbrev Reads : List MessageValue → List Item → Type 0
  Reads messages items = All (IsWritable c) items → (more : List ℕ)
      → map (read_in channels) (lines (text_of messages ++ more)) ≡ map (read_as place) items ++ map (read_in channels) (lines more)

  reads-none : Reads [] []
  reads-none h more = refl

  reads-one : (message : MessageValue) (item : Item)
      → ((more : List ℕ) → IsWritable c item → map (read_in channels) (lines (message.bytes ++ more)) ≡ read_as place item ∷ map (read_in channels) (lines more))
      → Reads (message ∷ []) (item ∷ [])
  reads-one message item first h more =
      ap (λ t. map (read_in channels) (lines (t ++ more))) (append-nil message.bytes) ∙ first more (All-head (IsWritable c) item [] h)

  reads-both : (m n : List MessageValue) (i j : List Item) → Reads m i → Reads n j → Reads (m ++ n) (i ++ j)
  reads-both m n i j first later h more =
      let two = all-parts (IsWritable c) i j h in
      ap (λ t. map (read_in channels) (lines (t ++ more))) (flat_map-append bytes_of m n)
      ∙ ap (λ t. map (read_in channels) (lines t)) (append_assoc (text_of m) (text_of n) more)
      ∙ first two.0 (text_of n ++ more) ∙ ap (λ l. map (read_as place) i ++ l) (later two.1 more)
      ∙ sym (append_assoc (map (read_as place) i) (map (read_as place) j) (map (read_in channels) (lines more)))
      ∙ ap (λ l. l ++ map (read_in channels) (lines more)) (sym (map-append (read_as place) i j))

  closing-reads : (some : Bool) → Reads (if some then finish_message names ∷ [] else []) (if some then Finish rendition ∷ [] else [])
  closing-reads true = reads-one (finish_message names) (Finish rendition) finish-first
  closing-reads false = reads-none

  opening-reads : (o : Option (Option ℕ)) → Reads (opening_messages names o) (opening_items rendition o)
  opening-reads None = reads-none
  opening-reads (Some time) = reads-one (break_message names time) (Break rendition time) (break-first time)

  module _ (part : ℕ) where
    piece-reads : (course : Course) (now : ℕ) (piece : Piece) → Reads (spoken names part course now piece) (spoken_items rendition part course now piece)
    piece-reads course now (piece.Begin section) =
        reads-both (begun names part course now) (init_message names section ∷ []) _ (Init rendition section ∷ [])
        (reads-both (closing_messages names course.place.index) (opening_messages names (opening part course now)) (closing_items rendition course.place.index)
        (opening_items rendition (opening part course now)) (closing-reads (not (course.place.index == 0))) (opening-reads (opening part course now)))
        (reads-one (init_message names section) (Init rendition section) (init-first section))
    piece-reads course now (piece.Init section) = reads-one (init_message names section) (Init rendition section) (init-first section)
    piece-reads course now (piece.Media media) = reads-one (part_message names media) (part_item media) (part-first media)
    piece-reads course now piece.Finish = reads-one (finish_message names) (Finish rendition) finish-first
    piece-reads course now (piece.Break None) = reads-one (break_message names None) (Break rendition None) (break-first None)
    piece-reads course now (piece.Break (Some since)) =
        reads-one (break_message names (Some (gap_time course since))) (Break rendition (Some (gap_time course since))) (break-first (Some (gap_time course since)))

    pieces-read : (course : Course) (readings : List ℕ) (pieces : List Piece) → Reads (texts names part course readings pieces) (items_of names rendition part course readings pieces)
    pieces-read course readings [] = reads-none
    pieces-read course readings (piece ∷ pieces) =
        let said = spoken names part course (first_of readings) piece in
        reads-both said (texts names part (course_then course said piece) (later_readings piece readings) pieces)
        (spoken_items rendition part course (first_of readings) piece) (items_of names rendition part (course_then course said piece) (later_readings piece readings) pieces)
        (piece-reads course (first_of readings) piece) (pieces-read (course_then course said piece) (later_readings piece readings) pieces)

    last-read : (fault : Option StreamFault) (ends : Bool)
        → map (read_in channels) (lines (text_of (last_texts names fault ends))) ≡ map (read_as place) (last_items rendition fault ends)
    last-read (Some fault) ends = refl
    last-read None false = refl
    last-read None true = end-read

    all-read : (ends : Bool) (course : Course) (readings : List ℕ) (o : Outcome) → All (IsWritable c) (items_of names rendition part course readings o.pieces)
        → map (read_in channels) (lines (text_of (messages names part ends course readings o)))
        ≡ map (read_as place) (items_of names rendition part course readings o.pieces ++ last_items rendition o.fault ends)
    all-read ends course readings o h =
        let items = items_of names rendition part course readings o.pieces in
        ap (λ text. map (read_in channels) (lines text)) (flat_map-append bytes_of (texts names part course readings o.pieces) (last_texts names o.fault ends))
        ∙ pieces-read course readings o.pieces h (text_of (last_texts names o.fault ends))
        ∙ ap (λ l. map (read_as place) items ++ l) (last-read o.fault ends)
        ∙ sym (map-append (read_as place) items (last_items rendition o.fault ends))

pub pieces_read : PiecesLaw
pieces_read channels place c rendition part course readings pieces more there h = pieces-read channels place c rendition there part course readings pieces h more

pub pushed : PushedLaw
pushed channels place c rendition part ends course readings outcome there h = all-read channels place c rendition there part ends course readings outcome h
