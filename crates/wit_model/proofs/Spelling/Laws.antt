-- The lines of a trace are printed and read alike.
use Rattle.std.proofs.Common.{◌≡◌, List, ◌∷◌, ◌++◌, Some, refl, sym, ap, subst, ◌∙◌, ℕ, []}
use Rattle.wit_model.specs.declared.lines.Line.{Line}
use Rattle.wit_model.specs.declared.lines.Line.TheVariants.{Header, Profile, Order, Bless, Init}
use Rattle.wit_model.specs.declared.lines.Line.TheVariants.{OnLock, Assert, Warn, Define, Watch}
use Rattle.wit_model.specs.declared.lines.LockLine.{LockLine}
use Rattle.wit_model.specs.declared.lines.LockLine.TheVariants.{Check, Try, Unlock, Plain, Step}
use Rattle.wit_model.specs.declared.lines.Keyword.{Keyword}
use Rattle.wit_model.specs.declared.lines.Keyword.TheVariants as keyword
use Rattle.wit_model.specs.declared.locks.Class.{Class}
use Rattle.wit_model.specs.Trace.Spelling.{keyword_text, spaced, list_fields, lock_keyword}
use Rattle.wit_model.specs.Trace.Spelling.{lock_line_fields, spelling, IsSpellable, Spells}
use Rattle.wit_model.specs.Trace.Reading.{◌>>=◌, until, keyword_named, fields_of, line_of}
use Rattle.wit_model.proofs.Spelling.Codecs.{Ends, bind_some, until_end, until_whole}
use Rattle.wit_model.proofs.Spelling.Named.{keyword_plain, keyword_takes, keyword_again}
use Rattle.wit_model.proofs.Spelling.Kinds.{header_takes, header_again, profile_takes}
use Rattle.wit_model.proofs.Spelling.Kinds.{profile_again, order_takes, order_again, bless_takes}
use Rattle.wit_model.proofs.Spelling.Kinds.{bless_again, init_takes, init_again}
use Rattle.wit_model.proofs.Spelling.CallKinds.{check_takes, try_takes, unlock_takes, plain_takes}
use Rattle.wit_model.proofs.Spelling.CallKinds.{take_takes, try_take_takes, free_takes}
use Rattle.wit_model.proofs.Spelling.CallKinds.{raw_up_takes, raw_down_takes, lock_line_again}
use Rattle.wit_model.proofs.Spelling.CallKinds.{assert_takes, assert_again, warn_takes, warn_again}
use Rattle.wit_model.proofs.Spelling.CallKinds.{define_takes, define_again, watch_takes}
use Rattle.wit_model.proofs.Spelling.CallKinds.{watch_again}

-- the fields that are read behind a keyword are the rest of the line's spelling
fields_take : (word : Keyword) (rest : List ℕ) (line : Line) → fields_of word rest ≡ Some line
    → Spells (keyword_text word ++ rest) line
fields_take keyword.Header = header_takes
fields_take keyword.Profile = profile_takes
fields_take keyword.Order = order_takes
fields_take keyword.Bless = bless_takes
fields_take keyword.Init = init_takes
fields_take keyword.Check = check_takes
fields_take keyword.Try = try_takes
fields_take keyword.Unlock = unlock_takes
fields_take (keyword.Plain verb) = plain_takes verb
fields_take keyword.Take = take_takes
fields_take keyword.TryTake = try_take_takes
fields_take keyword.Free = free_takes
fields_take keyword.RawUp = raw_up_takes
fields_take keyword.RawDown = raw_down_takes
fields_take keyword.Assert = assert_takes
fields_take keyword.Warn = warn_takes
fields_take keyword.Define = define_takes
fields_take keyword.Watch = watch_takes

-- what is read is spelled so
pub line_takes : (bytes : List ℕ) (line : Line) → line_of bytes ≡ Some line → Spells bytes line
unfolding line_of
line_takes bytes line e =
    let parts = until 32 bytes in
    let k = bind_some (keyword_named parts.0) (λ word. fields_of word parts.1) line e in
    let same : bytes ≡ keyword_text k.0 ++ parts.1 =
    until_whole 32 bytes ∙ ap (λ (w : List ℕ). w ++ parts.1) (keyword_takes parts.0 k.0 k.1) in
    subst (λ (b : List ℕ). Spells b line) (sym same) (fields_take k.0 parts.1 line k.2)

-- a line is read by its keyword
by_keyword : (word : Keyword) (rest : List ℕ) → Ends 32 rest
    → line_of (keyword_text word ++ rest) ≡ fields_of word rest
unfolding line_of
by_keyword word rest ends =
    ap (λ (u : List ℕ × List ℕ). keyword_named u.0 >>= λ word. fields_of word u.1)
    (until_end 32 (keyword_text word) rest (keyword_plain word) ends)
    ∙ rw (keyword_again word) refl

list_starts : (list : List (Class × List ℕ)) → Ends 32 (spaced (list_fields list))
list_starts [] = tt
list_starts (x ∷ xs) = refl

lock_line_starts : (line : LockLine (List ℕ)) → Ends 32 (spaced (lock_line_fields line))
lock_line_starts (Check s l m o f n) = refl
lock_line_starts (Try s l m f n) = refl
lock_line_starts (Unlock s l m) = refl
lock_line_starts (Plain verb s l) = refl
lock_line_starts (Step s l step) = refl

-- what is spelled so is read
pub line_again : (line : Line) → IsSpellable line → line_of (spelling line) ≡ Some line
line_again (Header v s t l c) (p0, p1, p2, p3) =
    by_keyword keyword.Header _ refl ∙ header_again (v, (s, (t, (l, c)))) (tt, (p0, (p1, (p2, p3))))
line_again Profile p = by_keyword keyword.Profile _ refl ∙ profile_again
line_again (Order list) (p0, p1) =
    by_keyword keyword.Order _ (list_starts list) ∙ order_again list p0 p1
line_again (Bless a b) (p0, p1) = by_keyword keyword.Bless _ refl ∙ bless_again (a, b) (p0, p1)
line_again (Init seat lock) (p0, p1) = by_keyword keyword.Init _ refl ∙ init_again seat lock p0 p1
line_again (OnLock line) p =
    by_keyword (lock_keyword line) _ (lock_line_starts line) ∙ lock_line_again line p
line_again (Assert s l a) (p0, p1, p2) =
    by_keyword keyword.Assert _ refl ∙ assert_again s l a p0 p1 p2
line_again (Warn s l f) (p0, p1, p2) = by_keyword keyword.Warn _ refl ∙ warn_again s l f p0 p1 p2
line_again (Define s a b) (p0, p1, p2) =
    by_keyword keyword.Define _ refl ∙ define_again s a b p0 p1 p2
line_again (Watch s w) p0 = by_keyword keyword.Watch _ refl ∙ watch_again s w p0

-- nothing else is read of the bytes that spell a line
pub spelled_again : (bytes : List ℕ) (line : Line) → Spells bytes line → line_of bytes ≡ Some line
spelled_again bytes line spells = ap line_of spells.0 ∙ line_again line spells.1
