-- The lines by which a request is written, after what its thread holds.
use Rattle.std.specs.Prelude.{ℕ, ◌+◌, List, [], ◌∷◌, ◌++◌, length}
use Rattle.std.specs.Prelude.{if◌then◌else◌}
use Rattle.wit_condensed.specs.declared.chain.Link.{Link}
use Rattle.wit_condensed.specs.declared.lines.Kind.{Kind}
use Rattle.wit_condensed.specs.declared.lines.Kind.TheVariants.{AskedAndGot, Tried, Asks}
use Rattle.wit_condensed.specs.declared.lines.Line.{Line}

-- the number of a kind
abbrev pub kind_number : Kind → ℕ
kind_number AskedAndGot = 0
kind_number Tried = 1
kind_number Asks = 2

-- the line of this kind on a link
abbrev pub line_of : ℕ → Kind → Line
line_of link kind = record { link = link; kind = kind_number kind }

-- what a link's line says
abbrev pub link_kind : Link → Kind
link_kind link = if link.tried then Tried else AskedAndGot

-- the lines of these links, where the first has this number: of those that aren't written yet
abbrev pub link_lines : ℕ → List Link → List Line
link_lines first [] = []
link_lines first (link ∷ links) =
    if link.written then link_lines (first + 1) links
    else line_of first (link_kind link) ∷ link_lines (first + 1) links

-- these, and then that of the request
abbrev pub request_lines : List Link → List Line
request_lines links = link_lines 0 links ++ line_of (length links) Asks ∷ []
