-- What reads consumed and what is answered to it, where the reader's bytes are known.
use Rattle.std.proofs.Common.{◌≡◌, ℕ, ◌+◌, ◌≤◌, ◌<◌, List, ◌++◌, None, Some, IfSome, OnOk, Result, Ok, Err, drop, append_assoc, take-append-drop, length-take-le, arith, sym, ap, subst, ◌∙◌, append-nil, length, take, length-append, length-take}
use native.Mathlib.Decide.{dec_lt}
use Rattle.std.specs.Io.KnownBytes.{Appends, Consumes, IsAtEnd}
use lib.Seq.{take_at}
use Rattle.std.specs.declared.option.Option.{Option}
use Rattle.document.specs.Program.{program_of}
use Rattle.rebuild_answer.specs.Room.{longest_input}
use Rattle.rebuild_answer.proofs.Longer.{longer_input}

-- the answer to what was read is the answer to the whole input
pub answer_of_read : (a b : Option (List ℕ)) (buf : List ℕ) (n : ℕ) → length buf ≡ longest_input + 1 → n ≤ length buf
    → Consumes a b (take n buf) → (n < length buf → IsAtEnd b)
    → IfSome a (λ xs. program_of (take n buf) ≡ program_of xs)
answer_of_read None b buf n room fits p ended = tt
answer_of_read (Some xs) None buf n room fits p ended = absurd p
answer_of_read (Some xs) (Some ys) buf n room fits p ended = go (dec_lt n (length buf))
  where
    go : Dec (n < length buf) → program_of (take n buf) ≡ program_of xs
    go (yes short) = ap program_of (sym (p ∙ ap (λ l. take n buf ++ l) (ended short) ∙ append-nil (take n buf)))
    go (no full) =
        let size : length (take n buf) ≡ longest_input + 1 = omega (arith, length-take n buf) in
        let front : take (longest_input + 1) xs ≡ take n buf =
        ap (take (longest_input + 1)) p ∙ take_at (take n buf) ys (longest_input + 1) size in
        let long : longest_input + 1 ≤ length xs = omega (arith, ap length p, length-append (take n buf) ys) in
        sym (longer_input (longest_input + 1) (omega arith) xs long ∙ ap program_of front)

-- what one read consumed stands after what those before it consumed
pub Consumes-twice : (a b c : Option (List ℕ)) (bs cs : List ℕ) → Consumes a b bs → Consumes b c cs
    → Consumes a c (bs ++ cs)
Consumes-twice None b c bs cs p q = tt
Consumes-twice (Some x) None c bs cs p q = absurd p
Consumes-twice (Some x) (Some y) None bs cs p q = absurd q
Consumes-twice (Some x) (Some y) (Some z) bs cs p q = p ∙ ap (λ l. bs ++ l) q ∙ sym (append_assoc bs cs z)

-- the front of a buffer, when something is put behind a front of it
pub front_grown : (a n : ℕ) (xs ys after : List ℕ) → a ≤ length xs → n ≤ length ys
    → take (a + n) (take a xs ++ (ys ++ after)) ≡ take a xs ++ take n ys
front_grown a n xs ys after within fits =
    let p : List ℕ = take a xs in
    let t : List ℕ = take n ys in
    let d : List ℕ = drop n ys in
    let split : (p ++ t) ++ (d ++ after) ≡ p ++ (ys ++ after) =
    append_assoc p t (d ++ after) ∙ ap (λ l. p ++ l) (sym (append_assoc t d after))
    ∙ ap (λ l. p ++ (l ++ after)) (take-append-drop n ys) in
    let size : length (p ++ t) ≡ a + n =
    omega (arith, length-append p t, length-take-le a xs within, length-take-le n ys fits) in
    ap (take (a + n)) (sym split) ∙ take_at (p ++ t) (d ++ after) (a + n) size

-- what was written is the answer to the whole input
pub answer_written : {A E : Type 0} (r : Result A E) (a w v : Option (List ℕ)) (bs cs : List ℕ) → bs ≡ program_of cs
    → IfSome a (λ xs. program_of cs ≡ program_of xs) → OnOk r (Appends w v bs)
    → OnOk r (IfSome a (λ xs. Appends w v (program_of xs)))
answer_written (Ok x) None w v bs cs e same p = tt
answer_written (Ok x) (Some xs) w v bs cs e same p = subst (Appends w v) (e ∙ same) p
answer_written (Err x) a w v bs cs e same p = tt
