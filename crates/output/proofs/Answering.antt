-- The lines written for a job are its whole output. Assumes nothing.
use mathlib.Core.Path.{◌≡◌, sym, ap, subst⁻¹, ◌∙◌}
use mathlib.Core.Bool.{true}
use Rattle.std.proofs.Common.{Result, Ok}
use mathlib.Core.List.{List, [], ◌++◌}
use Prim.Native.Nat.{ℕ, ◌+◌, ◌-◌, ◌*◌, ◌≤◌, ◌<◌}
use native.Mathlib.Omega.{arith}
use borrow.Author.Tests.{lt-ltb, eq-eqb, ne_eqb}
use borrow.Rule.Slice.PartMut.{mid_of, put_mid}
use lib.ListN.{length, get_or, drop, replicate, length-append, length-drop, length-replicate}
use Rattle.rules.specs.declared.Settings.{Settings}
use Rattle.rules.specs.declared.Answer.{Answer}
use Rattle.rules.specs.Lists.{laid, then_zeros}
use Rattle.rules.specs.Letters.{as_read}
use Rattle.rules.specs.Rooms.{work_holds, list_holds}
use Rattle.rules.specs.Strands.{entries, match_sum, larger_need, link_sum}
use Rattle.rules.specs.Answers.{Outcome, left, refusal, done, zeroed, checked, compared}
use Rattle.rules.proofs.ListLaws.{mem_at}
use Rattle.rules.proofs.Strands.{entry_size, entries_size}
use Rattle.refusals.specs.Accepted.{Accepted}
use Rattle.refusals.proofs.Checking.{accepted, read_accepted}
use Rattle.compare.proofs.Demands.{Compared, refused, no_work_room, no_list_room, listed, demand_1}
use Rattle.lines.specs.declared.error.FrameError.{FrameError}
use Rattle.lines.specs.Writing.{in_front, written, written_of, leaves}
use Rattle.lines.proofs.Lines.{line_length}
use Rattle.kinds.specs.declared.Done.{Done}
use Rattle.kinds.specs.declared.Refused.{Refused}
use Rattle.payloads.specs.Numbers.{number_bytes}
use Rattle.kinds.specs.Kinds.{entry_fits, done_payload, done_fits, done_line, refused_payload, refused_fits, refused_line}
use Rattle.output.specs.Output.{entry_of, line_of_entry, done_of, refused_of, answer_of, job_output}
use Rattle.output.specs.Entries.{entry_in, entries_in, EntriesSafe, ListingSafe, listing_lines}
use Rattle.output.proofs.Writing.{wrote, rest_long, line_behind, entries_length}
use Rattle.output.proofs.Sizes.{Small, checked_small, match_sum_few, need_few, entries_few, entry_fits_lem}
use Rattle.output.proofs.ReadBack.{entry_there, entries_back}

-- ---- one refused frame

refused_length : (x : Refused) → length (refused_line x) ≡ 19
unfolding refused_line refused_payload number_bytes
refused_length x = line_length 31 (refused_payload x)

pub refused_written : (x : Refused) (out left : List ℕ) (r : Result ℕ FrameError) → refused_fits x ≡ true → 9038 ≤ length out
    → written_of r ≡ written (refused_fits x) (refused_line x) out
    → left ≡ leaves (refused_fits x) (refused_line x) out → (r ≡ Ok (length (refused_line x))) × (left ≡ in_front (refused_line x) out)
unfolding in_front
refused_written x out left r f h a b = wrote (refused_fits x) (refused_line x) out left r f (omega (arith, refused_length x)) a b

-- ---- the entries and one done frame

done_length : (x : Done) → length (done_line x) ≡ 47
unfolding done_line done_payload number_bytes
done_length x = line_length 17 (done_payload x)

-- the entries' part of what is asked
pub entries_asked : (list old : List ℕ) (x : Answer) (n : ℕ) → ListingSafe list old x → n ≡ x.listed → EntriesSafe list old n
entries_asked list old x n safe en = subst⁻¹ (λ (k : ℕ). EntriesSafe list old k) en safe.entries

module _ (list old out : List ℕ) (x : Answer) (n at : ℕ) (safe : ListingSafe list old x) (en : n ≡ x.listed) (ea : at ≡ 27 * n)
    (eo : out ≡ laid line_of_entry (entries_in list n) ++ drop (27 * n) old) where
  abbrev text : List ℕ
  text = laid line_of_entry (entries_in list n)

  entries_safe : EntriesSafe list old n
  entries_safe = entries_asked list old x n safe en

  out_long : length out ≡ length old
  out_long =
      ap length eo
      ∙ (let r = entries_safe.room in omega (arith, length-append text (drop (27 * n) old), entries_length list n, length-drop (27 * n) old))

  e : at ≡ length text
  e = ea ∙ sym (entries_length list n)

  o : out ≡ text ++ drop at old
  o = eo ∙ ap (λ (k : ℕ). text ++ drop k old) (sym ea)

  roomy : at + length (done_line (done_of x)) ≤ length old
  roomy = let r = safe.room in let f = entries_safe.few in omega (arith, done_length (done_of x))

  module _ (left : List ℕ) (r : Result ℕ FrameError) (ew : written_of r ≡ written (done_fits (done_of x)) (done_line (done_of x)) (mid_of at (length out - at) out))
      (el : left ≡ leaves (done_fits (done_of x)) (done_line (done_of x)) (mid_of at (length out - at) out)) where
    fact : (r ≡ Ok (length (done_line (done_of x)))) × (left ≡ done_line (done_of x) ++ drop (length (done_line (done_of x))) (mid_of at (length out - at) out))
    fact =
        wrote (done_fits (done_of x)) (done_line (done_of x)) (mid_of at (length out - at) out) left r safe.done
        (rest_long text old out (done_line (done_of x)) left at e o out_long roomy) ew el

    pub done_written : r ≡ Ok 47
    done_written = fact.0 ∙ ap Ok (done_length (done_of x))

    pub done_ends : at + 47 ≤ 9038
    done_ends = let f = entries_safe.few in omega arith

    all_lines : text ++ done_line (done_of x) ≡ listing_lines list x
    unfolding listing_lines
    all_lines = ap (λ (k : ℕ). laid line_of_entry (entries_in list k) ++ done_line (done_of x)) en

    there : at + length (done_line (done_of x)) ≡ length (text ++ done_line (done_of x))
    there = omega (arith, length-append text (done_line (done_of x)), e)

    pub listing_written : (wide : ℕ) → wide ≡ 47 → (at + wide ≡ length (listing_lines list x)) × (put_mid at (length out - at) out left ≡ in_front (listing_lines list x) old)
    unfolding in_front
    listing_written wide w = (
      ap (λ (k : ℕ). at + k) (w ∙ sym (done_length (done_of x))) ∙ there ∙ ap length all_lines,
      line_behind text old out (done_line (done_of x)) left at e o out_long roomy fact.1
          ∙ ap (λ (k : ℕ). (text ++ done_line (done_of x)) ++ drop k old) there
          ∙ ap (λ (l : List ℕ). l ++ drop (length l) old) all_lines,
    )

-- ---- the answer of a job

small_fits : (x : Answer) → Small x → refused_fits (refused_of x) ≡ true
unfolding refused_fits refused_of
small_fits x h = rw (lt-ltb x.number 256 h.number, lt-ltb x.sequence 256 h.sequence, lt-ltb x.detail 4294967296 h.detail)

room_small : (n d : ℕ) (work list : List ℕ) → n < 256 → d < 4294967296 → Small (zeroed n d work list).answer
unfolding zeroed refusal
room_small n d work list a b = record { number = a; sequence = omega arith; detail = b }

module _ (c : Settings) (s t : List ℕ) where
  -- both sequences as they are read
  abbrev s' : List ℕ
  s' = as_read c.mask s

  abbrev t' : List ℕ
  t' = as_read c.mask t

  accepted_read : (checked c s t).number ≡ 0 → Accepted c s' t'
  accepted_read z = read_accepted c.mask (accepted c s t z)

  abbrev work : List ℕ
  work = replicate 4096 0

  abbrev list : List ℕ
  list = replicate 2000 0

  answer_is : {x : Answer} {work' room : List ℕ} → left x work' room ≡ compared c s t work list → x ≡ (compared c s t work list).answer
  answer_is o = ap (λ (y : Outcome). y.answer) o

  pub refused_output : {x : Answer} {work' room : List ℕ} → left x work' room ≡ compared c s t work list → (x.number ≡ 0 → ⊥)
      → refused_line (refused_of x) ≡ job_output c s t
  unfolding job_output answer_of
  refused_output {x} o h = rw (← answer_is o, ne_eqb x.number 0 h)

  pub refused_fits_lem : {x : Answer} {work' room : List ℕ} → left x work' room ≡ compared c s t work list → (x.number ≡ 0 → ⊥) → refused_fits (refused_of x) ≡ true
  unfolding done
  refused_fits_lem {x} o h = small_fits x (go (demand_1 c s t work list))
    where
      e : x ≡ (compared c s t work list).answer
      e = answer_is o

      go : Compared c s t work list → Small x
      go (refused f q) = subst⁻¹ Small (e ∙ ap (λ (y : Outcome). y.answer) q) (checked_small c s t)
      go (no_work_room z f q) =
          let few = need_few c s' t' (accepted_read z) in
          subst⁻¹ Small (e ∙ ap (λ (y : Outcome). y.answer) q) (room_small 7 (larger_need c s' t') work list (omega arith) (omega arith))
      go (no_list_room z f g q) =
          let few = entries_few c s' t' (accepted_read z) in
          subst⁻¹ Small (e ∙ ap (λ (y : Outcome). y.answer) q) (room_small 8 (length (entries c s' t')) work list (omega arith) (omega arith))
      go (listed z f g q) = absurd (h (ap (λ (y : Answer). y.number) (e ∙ ap (λ (y : Outcome). y.answer) q)))

  module _ {x : Answer} {work' room : List ℕ} (o : left x work' room ≡ compared c s t work list) (z : x.number ≡ 0) where
    -- what a job that is done leaves
    record Ends : Type 0 where
      pass : (checked c s t).number ≡ 0
      enough : larger_need c s' t' ≤ work_holds work
      few : length (entries c s' t') ≤ list_holds list
      answer : x ≡ done (length (entries c s' t')) (match_sum c s' t') (larger_need c s' t') (link_sum c s' t')
      written : room ≡ then_zeros (laid (λ entry. entry) (entries c s' t')) (length list)

    ends : Ends
    unfolding zeroed refusal
    ends = go (demand_1 c s t work list)
      where
        go : Compared c s t work list → Ends
        go (refused f q) = absurd (f (sym (ap (λ (y : Outcome). y.answer.number) (o ∙ q)) ∙ z))
        go (no_work_room p f q) = absurd (let n = ap (λ (y : Outcome). y.answer.number) (o ∙ q) in omega arith)
        go (no_list_room p f g q) = absurd (let n = ap (λ (y : Outcome). y.answer.number) (o ∙ q) in omega arith)
        go (listed p f g q) =
            record { pass = p; enough = f; few = g; answer = ap (λ (y : Outcome). y.answer) (o ∙ q); written = ap (λ (y : Outcome). y.list) (o ∙ q) }

    count_is : x.listed ≡ length (entries c s' t')
    unfolding done
    count_is = ap (λ (y : Answer). y.listed) ends.answer

    few_entries : length (entries c s' t') ≤ 333
    unfolding list_holds
    few_entries = let f = ends.few in omega (arith, length-replicate {A = ℕ} 2000 0)

    tail : List ℕ
    tail = replicate (length list - length (laid (λ entry. entry) (entries c s' t'))) 0

    listed_room : room ≡ laid (λ entry. entry) (entries c s' t') ++ tail
    unfolding then_zeros tail
    listed_room = ends.written

    pub listing_output : listing_lines room x ≡ job_output c s t
    unfolding listing_lines job_output answer_of
    listing_output =
        let lines : laid line_of_entry (entries_in room x.listed) ≡ laid line_of_entry (entries c s' t') =
        ap (λ (n : ℕ). laid line_of_entry (entries_in room n)) count_is
        ∙ ap (laid line_of_entry) (entries_back (entries c s' t') (entry_size c s' t') room tail listed_room) in
        rw (← answer_is o, eq-eqb x.number 0 z) (ap (λ (l : List ℕ). l ++ done_line (done_of x)) lines)

    fits_at : (n : ℕ) → n < x.listed → entry_fits (entry_of (entry_in room n)) ≡ true
    fits_at n h =
        let l : n < length (entries c s' t') = omega (arith, count_is) in
        ap (λ (e : List ℕ). entry_fits (entry_of e)) (entry_there (entries c s' t') (entry_size c s' t') room tail listed_room n l)
        ∙ entry_fits_lem c s' t' (accepted_read ends.pass) (get_or (entries c s' t') n []) (mem_at (entries c s' t') n [] l)

    tallies_fit : done_fits (done_of x) ≡ true
    unfolding done_fits done_of work_holds done
    tallies_fit =
        let m = match_sum_few c s' t' (accepted_read ends.pass) in
        let w = ends.enough in
        let em = ap (λ (y : Answer). y.matches) ends.answer in
        let ew = ap (λ (y : Answer). y.widest) ends.answer in
        rw (
          lt-ltb x.listed 4294967296 (omega (arith, count_is, few_entries)),
          lt-ltb x.matches 4294967296 (omega arith),
          lt-ltb x.widest 4294967296 (omega (arith, length-replicate {A = ℕ} 4096 0)),
        )

    room_long : 6 * x.listed ≤ length room
    room_long = omega (arith, count_is, ap length listed_room, length-append (laid (λ entry. entry) (entries c s' t')) tail, entries_size c s' t')

    pub listing_safe : (output : List ℕ) → 9038 ≤ length output → ListingSafe room output x
    listing_safe output h =
        record {
          entries = record { held = room_long; room = omega (arith, count_is, few_entries); few = omega (arith, count_is, few_entries); fit = fits_at };
          room = h;
          done = tallies_fit;
        }
