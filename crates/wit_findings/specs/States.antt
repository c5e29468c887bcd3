-- What is known at a moment: what seats hold and ask for, a circle of those that wait, and whether
-- the log is clean.
use Rattle.std.specs.Prelude.{◌≡◌, ℕ, List, [], ◌∷◌, ◌++◌, Option, Some, None, reverse, codes, Bool}
use Rattle.std.specs.Prelude.{◌&&◌, ◌==◌}
use Rattle.std.specs.Fmt.{decimal}
use Rattle.std.specs.List.{flat_map, range_with_len}
use Rattle.json.specs.Token.{Token, end_object, begin_array, end_array, key, number}
use Rattle.json.specs.Token.{boolean}
use Rattle.wit_model.specs.declared.calls.Request.{Request}
use Rattle.wit_model.specs.declared.locks.Instance.{Instance}
use Rattle.wit_model.specs.declared.locks.LockNo.{LockNo}
use Rattle.wit_model.specs.declared.locks.Mode.{Mode}
use Rattle.wit_model.specs.declared.locks.Site.{Site}
use Rattle.wit_model.specs.Rules.Circles.{TellsCircle, Waits}
use Rattle.wit_model.specs.Rules.State.{seat_at, state_of}
use Rattle.wit_model.specs.Trace.Views.{mode_words}
use Rattle.wit_state.specs.Clean.{is_clean_story}
use Rattle.wit_findings.specs.Objects.{count_member, head_tokens, line_text, lock_member}
use Rattle.wit_findings.specs.Objects.{text_member}
use Rattle.wit_findings.specs.Told.{Told, thread_of}

-- a seat and its thread hold, or ask for, a lock
abbrev pub seat_tokens : Told → List ℕ → ℕ → LockNo → Mode → Site → List Token
seat_tokens t kind seat lock mode site =
    head_tokens t.process kind ++ (count_member (codes "seat") seat
    ++ (count_member (codes "thread") (thread_of t seat)
    ++ (text_member (codes "mode") (mode_words mode)
    ++ (lock_member t (codes "lock") (record { lock = lock; site = site }) ++ end_object ∷ []))))

abbrev pub held_line : Told → ℕ → Instance → List ℕ
held_line t seat held =
    line_text (seat_tokens t (codes "held") seat held.lock held.mode held.site)

abbrev pub asks_text : Told → ℕ → Option Request → List ℕ
asks_text t seat None = []
asks_text t seat (Some q) = line_text (seat_tokens t (codes "asks") seat q.lock q.mode q.site)

-- what a seat holds, newest first, and what it asks for
abbrev pub seat_text : Told → ℕ → List ℕ
seat_text t n =
    let seat = seat_at (state_of t.story) n in
    flat_map (held_line t n) (reverse seat.spin) ++ (flat_map (held_line t n) (reverse seat.sleep)
    ++ asks_text t n seat.pending)

abbrev pub seats_text : Told → List ℕ
seats_text t = flat_map (seat_text t) (range_with_len 1 t.story.start.sizes.seats)

abbrev pub seat_values : List ℕ → List Token
seat_values [] = []
seat_values (seat ∷ seats) = number (decimal seat) ∷ seat_values seats

-- seats of which each waits for the next, and the last for the first
abbrev pub circle_text : Option ℕ → Option (List ℕ) → List ℕ
circle_text process None = []
circle_text process (Some seats) =
    line_text (head_tokens process (codes "circle")
    ++ (key (codes "seats") ∷ begin_array ∷ (seat_values seats ++ end_array ∷ end_object ∷ [])))

abbrev pub clean_line : Option ℕ → Bool → List ℕ
clean_line process clean =
    line_text (head_tokens process (codes "clean")
    ++ key (codes "clean") ∷ boolean clean ∷ end_object ∷ [])

-- a bad line may have been a call, of which the log knows nothing
unfoldable pub is_clean_told : Told → Bool
is_clean_told t = is_clean_story t.story && (t.bads == 0)

abbrev pub state_text : Told → Option (List ℕ) → List ℕ
state_text t seats =
    seats_text t ++ (circle_text t.process seats ++ clean_line t.process (is_clean_told t))

-- what is told of a moment. There may be more circles than one: any may be told that starts with its
-- least seat
pub record IsState (t : Told) (text : List ℕ) : Type 0 where
  pub seats : Option (List ℕ)
  pub circle : TellsCircle (Waits (state_of t.story)) seats
  pub is : text ≡ state_text t seats
