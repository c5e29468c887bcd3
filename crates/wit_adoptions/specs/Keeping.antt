-- Who adds to a list.
use Rattle.std.specs.Prelude.{◌≡◌, true, List, []}
use Rattle.logbook.specs.Pages.{Book, Named, may_write}
use Rattle.logbook.specs.declared.tokens.Pen.{Pen}
use Rattle.wit_adoptions.specs.declared.link.ListLink.{ListLink}
use Rattle.wit_adoptions.specs.Links.{end_behind}
use Rattle.wit_adoptions.specs.Naming.{Name, Sheet, IsOf, name, sheet}

-- the word at which a book's steps are taken
abbrev pub head_of : Book → Named
head_of book = record { tracked = true; key = 0; book = book }

-- a pen that was not used up
abbrev pub IsUnused : Book → Pen → Type 0
IsUnused book pen = (pen.book ≡ book) × (pen.nib.right ≡ may_write)

-- the keeper of a list has its book's word and the pen of its end, and has seen all of it
abbrev pub IsKeeping : Name → Named → Sheet → Pen → Type 0
IsKeeping name head s pen =
    IsOf name s
    × (head ≡ head_of name.book)
    × IsUnused name.book pen
    × (end_behind name.start s.links ≡ pen.nib.key)

-- nothing was seen of the book, and the list begins with the pen's end
abbrev pub IsNewListKeeper : Named → Book → List ListLink → Pen → Type 0
IsNewListKeeper head book links pen =
    (links ≡ []) × IsKeeping (name book pen.nib.key) head (sheet book links 0) pen
