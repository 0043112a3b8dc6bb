-- The bytes of a response: its head, and then its body.
use Rattle.std.specs.Prelude.{ℕ, List, [], ◌++◌}
use Rattle.std.specs.Arc.{arc_str_bytes}
use Rattle.ll_wire.specs.declared.body.Body.{Body}
use Rattle.ll_wire.specs.declared.body.Body.TheVariants.{Nothing, Playlist, Media}
use Rattle.ll_wire.specs.declared.body.Response.{Response}

-- the bytes of the body
abbrev pub shared_bytes : Body → List ℕ
shared_bytes Nothing = []
shared_bytes (Playlist text) = arc_str_bytes text
shared_bytes (Media media) = media

-- the bytes of the whole response
abbrev pub bytes_of : Response → List ℕ
bytes_of m = m.head.items ++ shared_bytes m.body
