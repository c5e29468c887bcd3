-- The lines of types, of orders and of waiting seats, piece by piece.
use Rattle.std.proofs.Common.{◌≡◌, ℕ, ◌+◌, ◌<◌, List, [], ◌∷◌, ◌++◌, length, get_or, drop, codes}
use Rattle.std.proofs.Common.{ap, sym, ◌∙◌, append_assoc}
use Rattle.std.specs.Fmt.{decimal}
use Rattle.std.proofs.lemmas.List.{at_drop_more}
use Rattle.wit_model.specs.declared.locks.LockType.{LockType}
use Rattle.wit_model.specs.declared.locks.SeatNo.{SeatNo}
use Rattle.wit_model.specs.Rules.Circles.{seat_numbers}
use Rattle.wit_model.specs.Rules.State.{State, Known, seat_at}
use Rattle.wit_model.specs.Rules.Types.{name_of, class_of}
use Rattle.wit_model.specs.Trace.Spelling.{quoted}
use Rattle.wit_model.specs.Trace.Texts.{class_words}
use Rattle.wit_model.specs.Trace.Views.{type_line, edge_line, asked_name, wait_line, wait_lines}

pub edge-written : {t1 t2 t3 t4 : List ℕ} (t : List ℕ) (k : Known) (a b : ℕ)
    → t1 ≡ t ++ quoted (name_of a k.types) → t2 ≡ t1 ++ codes ","
    → t3 ≡ t2 ++ quoted (name_of b k.types)
    → t4 ≡ t3 ++ 10 ∷ [] → t4 ≡ t ++ edge_line k a b
edge-written t k a b e1 e2 e3 e4 =
    behind4 t (quoted (name_of a k.types)) (codes ",") (quoted (name_of b k.types))
    (10 ∷ []) e1 e2 e3 e4
  where
    behind4 : {u1 u2 u3 u4 : List ℕ} (u p1 p2 p3 p4 : List ℕ) → u1 ≡ u ++ p1 → u2 ≡ u1 ++ p2
        → u3 ≡ u2 ++ p3 → u4 ≡ u3 ++ p4 → u4 ≡ u ++ (p1 ++ (p2 ++ (p3 ++ p4)))
    behind4 u p1 p2 p3 p4 f1 f2 f3 f4 = simp (f4, f3, f2, f1, append_assoc)

pub wait-written : {t1 t2 t3 t4 t5 t6 t7 : List ℕ} (t : List ℕ) (s : State) (seat next : ℕ)
    → t1 ≡ t ++ codes " seat " → t2 ≡ t1 ++ decimal seat → t3 ≡ t2 ++ codes " waits for "
    → t4 ≡ t3 ++ quoted (asked_name s.known.locks (seat_at s seat).pending)
    → t5 ≡ t4 ++ codes " held by seat " → t6 ≡ t5 ++ decimal next → t7 ≡ t6 ++ 10 ∷ []
    → t7 ≡ t ++ wait_line s seat next
wait-written t s seat next e1 e2 e3 e4 e5 e6 e7 =
    behind7 t (codes " seat ") (decimal seat) (codes " waits for ")
    (quoted (asked_name s.known.locks (seat_at s seat).pending)) (codes " held by seat ")
    (decimal next)
    (10 ∷ []) e1 e2 e3 e4 e5 e6 e7
  where
    behind7 : {u1 u2 u3 u4 u5 u6 u7 : List ℕ} (u p1 p2 p3 p4 p5 p6 p7 : List ℕ) → u1 ≡ u ++ p1
        → u2 ≡ u1 ++ p2 → u3 ≡ u2 ++ p3 → u4 ≡ u3 ++ p4 → u5 ≡ u4 ++ p5 → u6 ≡ u5 ++ p6
        → u7 ≡ u6 ++ p7
        → u7 ≡ u ++ (p1 ++ (p2 ++ (p3 ++ (p4 ++ (p5 ++ (p6 ++ p7))))))
    behind7 u p1 p2 p3 p4 p5 p6 p7 f1 f2 f3 f4 f5 f6 f7 =
        simp (f7, f6, f5, f4, f3, f2, f1, append_assoc)

-- a circle's lines, once the first of them is written
pub wait-turn : (s : State) (seats : List SeatNo) (first : ℕ) (i : ℕ) (a b d : SeatNo)
    (t u : List ℕ) → i < length seats → b ≡ get_or seats i d → u ≡ t ++ wait_line s a.0 b.0
    → u ++ wait_lines s b.0 (seat_numbers (drop (i + 1) seats)) first
    ≡ t ++ wait_lines s a.0 (seat_numbers (drop i seats)) first
wait-turn s seats first i a b d t u lt here written =
    ap (λ x. x ++ wait_lines s b.0 (seat_numbers (drop (i + 1) seats)) first) written
    ∙ append_assoc t (wait_line s a.0 b.0)
    (wait_lines s b.0 (seat_numbers (drop (i + 1) seats)) first)
    ∙ ap (λ (c : SeatNo). t ++ (wait_line s a.0 c.0 ++ wait_lines s c.0
    (seat_numbers (drop (i + 1) seats)) first)) here
    ∙ sym (at_drop_more (λ rest. t ++ wait_lines s a.0 (seat_numbers rest) first) seats i d lt)

pub type-written : {t1 t2 t3 t4 t5 t6 t7 t8 : List ℕ} (t : List ℕ) (types : List LockType) (live : ℕ
    → ℕ) (n : ℕ) → t1 ≡ t ++ decimal n → t2 ≡ t1 ++ codes " "
    → t3 ≡ t2 ++ quoted (name_of n types) → t4 ≡ t3 ++ codes " "
    → t5 ≡ t4 ++ class_words (class_of n types) → t6 ≡ t5 ++ codes " locks "
    → t7 ≡ t6 ++ decimal (live n)
    → t8 ≡ t7 ++ 10 ∷ [] → t8 ≡ t ++ type_line types live n
type-written t types live n e1 e2 e3 e4 e5 e6 e7 e8 =
    behind8 t (decimal n) (codes " ") (quoted (name_of n types)) (codes " ")
    (class_words (class_of n types)) (codes " locks ") (decimal (live n))
    (10 ∷ []) e1 e2 e3 e4 e5 e6 e7 e8
  where
    behind8 : {u1 u2 u3 u4 u5 u6 u7 u8 : List ℕ} (u p1 p2 p3 p4 p5 p6 p7 p8 : List ℕ) → u1 ≡ u ++ p1
        → u2 ≡ u1 ++ p2 → u3 ≡ u2 ++ p3 → u4 ≡ u3 ++ p4 → u5 ≡ u4 ++ p5 → u6 ≡ u5 ++ p6
        → u7 ≡ u6 ++ p7 → u8 ≡ u7 ++ p8
        → u8 ≡ u ++ (p1 ++ (p2 ++ (p3 ++ (p4 ++ (p5 ++ (p6 ++ (p7 ++ p8)))))))
    behind8 u p1 p2 p3 p4 p5 p6 p7 p8 f1 f2 f3 f4 f5 f6 f7 f8 =
        simp (f8, f7, f6, f5, f4, f3, f2, f1, append_assoc)
