-- What putting one line after another into a buffer leaves there.
use Rattle.std.proofs.Common.{◌≡◌, ℕ, ◌+◌, ◌<◌, ◌≤◌, Bool, true, false, cond, List, [], ◌∷◌, ◌++◌}
use Rattle.std.proofs.Common.{length, take, drop, set, get_or, refl, ap, sym, ◌∙◌, arith}
use Rattle.std.proofs.Common.{add-zero}
use Rattle.std.proofs.lemmas.List.{append-nil, append_assoc, take_more, drop_more, set_at, take_at}
use Rattle.std.proofs.lemmas.List.{drop_at, length_push, take_all, length-take-le}
use Rattle.wit_condensed.specs.declared.chain.Link.{Link}
use Rattle.wit_condensed.specs.declared.lines.Kind.TheVariants.{Asks}
use Rattle.wit_condensed.specs.declared.lines.Line.{Line}
use Rattle.wit_condensed.specs.Lines.{link_kind, line_of, link_lines, request_lines}

-- the buffer has the lines of the first i links, and after these what it had
pub record IsPut (links : List Link) (old : List Line) (i count : ℕ) (lines : List Line) : Type 0
  where
    pub within : count ≤ i
    pub counted : length (link_lines 0 (take i links)) ≡ count
    pub put : lines ≡ link_lines 0 (take i links) ++ drop count old

-- what a read of no link gives
abbrev pub no_link : Link
no_link = record { lock = 0; type_no = 0; tried = false; written = false }

-- one line more
pub line_put : (put old lines : List Line) (count : ℕ) (line : Line) → length put ≡ count
    → count < length old → lines ≡ put ++ drop count old
    → set lines count line ≡ put ++ line ∷ drop (count + 1) old
line_put put old lines count line counted room is =
    ap (λ xs. set xs count line) (is ∙ ap (λ xs. put ++ xs) (drop_more old count line room))
    ∙ set_at put (get_or old count line) (drop (count + 1) old) line count counted

-- the line of this link, if it isn't written yet
abbrev own_lines : ℕ → Link → List Line
own_lines i link = cond link.written [] (line_of i (link_kind link) ∷ [])

link_lines-push : (first : ℕ) (links : List Link) (link : Link)
    → link_lines first (links ++ link ∷ [])
    ≡ link_lines first links ++ own_lines (first + length links) link
link_lines-push first [] link =
    last link.written ∙ ap (λ i. own_lines i link) (sym (add-zero first))
  where
    last : (written : Bool) → cond written [] (line_of first (link_kind link) ∷ [])
        ≡ cond written [] (line_of first (link_kind link) ∷ [])
    last true = refl
    last false = refl
link_lines-push first (x ∷ links) link = go x.written (link_lines-push (first + 1) links link)
  where
    go : (written : Bool)
        → link_lines (first + 1) (links ++ link ∷ [])
        ≡ link_lines (first + 1) links ++ own_lines (first + 1 + length links) link
        → cond written (link_lines (first + 1) (links ++ link ∷ []))
        (line_of first (link_kind x) ∷ link_lines (first + 1) (links ++ link ∷ []))
        ≡ cond written (link_lines (first + 1) links)
        (line_of first (link_kind x) ∷ link_lines (first + 1) links)
        ++ own_lines (first + length (x ∷ links)) link
    go true next = next ∙ ap (λ i. link_lines (first + 1) links ++ own_lines i link) (omega arith)
    go false next =
        ap (λ xs. line_of first (link_kind x) ∷ xs)
        (next ∙ ap (λ i. link_lines (first + 1) links ++ own_lines i link) (omega arith))

-- the lines of one link more
lines_more : (links : List Link) (i : ℕ) (d : Link) → i < length links
    → link_lines 0 (take (i + 1) links)
    ≡ link_lines 0 (take i links) ++ own_lines i (get_or links i d)
lines_more links i d within =
    let le : i ≤ length links = omega arith in
    let counted : 0 + length (take i links) ≡ i = rw (length-take-le i links le) (omega arith) in
    ap (link_lines 0) (take_more links i d within)
    ∙ (link_lines-push 0 (take i links) (get_or links i d)
    ∙ ap (λ n. link_lines 0 (take i links) ++ own_lines n (get_or links i d)) counted)

module _ (links : List Link) (old : List Line) (i count : ℕ) (lines : List Line) (d : Link)
    (so : IsPut links old i count lines) (within : i < length links) where
  -- a link that isn't written yet
  pub put_more : (line : Line) → length links < length old → (get_or links i d).written ≡ false
      → line ≡ line_of i (link_kind (get_or links i d))
      → IsPut links old (i + 1) (count + 1) (set lines count line)
  put_more line room new is =
      let more : link_lines 0 (take (i + 1) links) ≡ link_lines 0 (take i links) ++ line ∷ [] =
      lines_more links i d within
      ∙ ap (λ xs. link_lines 0 (take i links) ++ xs)
      (ap (λ t. cond t [] (line_of i (link_kind (get_or links i d)) ∷ [])) new
      ∙ ap (λ x. x ∷ []) (sym is)) in
      let room_here : count < length old = omega (arith, so.within, room, within) in
      record {
        within = omega (arith, so.within);
        counted = ap length more
            ∙ (length_push (link_lines 0 (take i links)) line ∙ ap (λ n. n + 1) so.counted);
        put = line_put (link_lines 0 (take i links)) old lines count line so.counted room_here so.put
            ∙ (sym (append_assoc (link_lines 0 (take i links)) (line ∷ []) (drop (count + 1) old))
            ∙ ap (λ xs. xs ++ drop (count + 1) old) (sym more));
      }

  -- one that is written
  pub put_same : (get_or links i d).written ≡ true → IsPut links old (i + 1) count lines
  put_same written =
      let more : link_lines 0 (take (i + 1) links) ≡ link_lines 0 (take i links) =
      lines_more links i d within
      ∙ (ap (λ t. link_lines 0 (take i links)
      ++ cond t [] (line_of i (link_kind (get_or links i d)) ∷ [])) written
      ∙ append-nil (link_lines 0 (take i links))) in
      record {
        within = omega (arith, so.within);
        counted = ap length more ∙ so.counted;
        put = so.put ∙ ap (λ xs. xs ++ drop count old) (sym more);
      }

-- the request's own line comes last
module _ (links : List Link) (old : List Line) (i count : ℕ) (lines : List Line) (line : Line)
    (so : IsPut links old i count lines) (all : length links ≤ i) (room : count < length old)
    (is : line ≡ line_of (length links) Asks) where
  whole : link_lines 0 (take i links) ++ line ∷ [] ≡ request_lines links
  whole = ap (λ xs. link_lines 0 xs ++ line ∷ []) (take_all i links all)
      ∙ ap (λ x. link_lines 0 links ++ x ∷ []) is

  long : length (link_lines 0 (take i links) ++ line ∷ []) ≡ count + 1
  long = length_push (link_lines 0 (take i links)) line ∙ ap (λ n. n + 1) so.counted

  lines_now : set lines count line
      ≡ (link_lines 0 (take i links) ++ line ∷ []) ++ drop (count + 1) old
  lines_now =
      line_put (link_lines 0 (take i links)) old lines count line so.counted room so.put
      ∙ sym (append_assoc (link_lines 0 (take i links)) (line ∷ []) (drop (count + 1) old))

  pub put_all : take (count + 1) (set lines count line) ≡ request_lines links
  put_all =
      ap (take (count + 1)) lines_now
      ∙ (take_at (link_lines 0 (take i links) ++ line ∷ []) (drop (count + 1) old) (count + 1) long
      ∙ whole)

  pub rest_same : drop (count + 1) (set lines count line) ≡ drop (count + 1) old
  rest_same =
      ap (drop (count + 1)) lines_now
      ∙ drop_at (link_lines 0 (take i links) ++ line ∷ []) (drop (count + 1) old) (count + 1) long
