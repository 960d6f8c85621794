-- What one turn finds, and where an item ends.
use Rattle.std.proofs.Common.{◌≡◌, ℕ, suc, ◌+◌, ◌-◌, ◌<◌, ◌≤◌, List, length, drop, refl, ap, sym, ◌∙◌, subst, arith, false, length-append, length-drop}
use Rattle.std.specs.Prelude.{nat_lt, ◌≢◌, Result, Ok, Err}
use Rattle.std.proofs.lemmas.Bool.{le-ltb}
use Rattle.std.proofs.lemmas.Bool.Decides.{nat_tests}
use Rattle.std.proofs.lemmas.List.{drop-drop}
use Rattle.ecd_head.specs.declared.HeadFault.{HeadFault}
use Rattle.ecd_head.specs.declared.Head.{Head}
use Rattle.ecd_head.specs.Fault.{head_at}
use Rattle.ecd_head.proofs.Heads.{IsBytes-drop, count_fits}
use Rattle.ecd_item_laws.specs.Encoding.{encoding}
use Rattle.ecd_emit.specs.Windows.{IsBytes, IsEnd}
use Rattle.ecd_fixed_heads.specs.Framed.{ItemStands}
use Rattle.ecd_fixed_heads.specs.Extents.{string_behind, least_behind, inside, own_end_of}
use Rattle.ecd_fixed_heads.proofs.Arguments.{same_read}
use Rattle.ecd_fixed_heads.proofs.Owing.{Owes, One, begins, goes_on, string_fits, owes_none, none_owed, owes_one, one_owed, item_long}

-- the head that is met at a place, where the place behind it and its string is this one
pub record Met (len at : ℕ) (r : Result (Head × ℕ) HeadFault) (next : ℕ) : Type 0 where
  pub head : Head
  pub size : ℕ
  pub read : r ≡ Ok (head, size)
  pub is : next ≡ at + size + string_behind head
  pub room : least_behind head ≤ len - (at + size)

met_by : (len at size next : ℕ) (head : Head) → next ≢ 0 → next ≡ own_end_of len at (Ok (head, size)) → (next ≡ at + size + string_behind head) × (least_behind head ≤ len - (at + size))
met_by len at size next head ne e = grind (arith, nat_tests, e, ne)

pub met : (len at : ℕ) (r : Result (Head × ℕ) HeadFault) (next : ℕ) → next ≢ 0 → next ≡ own_end_of len at r → Met len at r next
met len at (Err fault) next ne e = absurd (ne e)
met len at (Ok x) next ne e = let b = met_by len at x.1 next x.0 ne e in record { head = x.0; size = x.1; read = refl; is = b.0; room = b.1 }

pub inside_few : (head : Head) → inside head ≤ least_behind head + least_behind head + 1
inside_few head = grind (arith, nat_tests)

some_own : (len at size : ℕ) (head : Head) → 0 < size → size + least_behind head ≤ len - at → 0 ≡ own_end_of len at (Ok (head, size)) → ⊥
some_own len at size head some room e =
    let enough : nat_lt (len - (at + size)) (least_behind head) ≡ false = le-ltb (len - (at + size)) (least_behind head) (omega arith) in
    let whole : 0 ≡ at + size + string_behind head = rw enough at e in
    omega arith

module _ (bytes : List ℕ) (len : ℕ) (fits : IsBytes bytes) (long : length bytes ≡ len) where
  -- ---- from one place to the next

  behind_met : (at next size string : ℕ) → next ≡ at + size + string → drop (size + string) (drop at bytes) ≡ drop next bytes
  behind_met at next size string e =
      let same : at + (size + string) ≡ next = omega arith in
      drop-drop (size + string) at bytes ∙ ap (λ (n : ℕ). drop n bytes) same

  pub forth : (at next left : ℕ) (rest : List ℕ) (t : Met len at (head_at (drop at bytes)) next) → Owes (drop at bytes) (suc left) rest → Owes (drop next bytes) (left + inside t.head) rest
  forth at next left rest t h =
      let b = begins (drop at bytes) left rest h in
      let same = same_read b.head t.head b.size t.size (sym b.read ∙ t.read) in
      let there : Owes (drop (t.size + string_behind t.head) (drop at bytes)) (left + inside t.head) rest = rw same.1 at (rw same.0 at b.more) in
      subst (λ (l : List ℕ). Owes l (left + inside t.head) rest) (behind_met at next t.size (string_behind t.head) t.is) there

  pub back : (at next left : ℕ) (rest : List ℕ) (t : Met len at (head_at (drop at bytes)) next) → Owes (drop next bytes) (left + inside t.head) rest → Owes (drop at bytes) (suc left) rest
  back at next left rest t h =
      let room : t.size + string_behind t.head ≤ length (drop at bytes) = omega (arith, t.room, string_fits t.head, count_fits (drop at bytes) t.head t.size (IsBytes-drop at bytes fits) t.read, length-drop at bytes, long) in
      goes_on (drop at bytes) left rest t.head t.size (IsBytes-drop at bytes fits) t.read room
      (subst (λ (l : List ℕ). Owes l (left + inside t.head) rest) (sym (behind_met at next t.size (string_behind t.head) t.is)) h)

  pub none : (at left : ℕ) (rest : List ℕ) → 0 ≡ own_end_of len at (head_at (drop at bytes)) → Owes (drop at bytes) (suc left) rest → ⊥
  none at left rest e h =
      let b = begins (drop at bytes) left rest h in
      some_own len at b.size b.head b.some (omega (arith, b.room, length-drop at bytes, long)) (e ∙ ap (own_end_of len at) b.read)

  pub met_within : (at next : ℕ) → at ≤ len → (t : Met len at (head_at (drop at bytes)) next) → at + t.size + least_behind t.head ≤ len
  met_within at next le t = omega (arith, t.room, count_fits (drop at bytes) t.head t.size (IsBytes-drop at bytes fits) t.read, length-drop at bytes, long)

  -- ---- the end

  module _ (at : ℕ) (le : at ≤ len) where
    stands : (next : ℕ) → next ≤ len → One (drop at bytes) (drop next bytes) → ItemStands bytes at next
    stands next lt o = record {
      item = o.item;
      framed = o.framed;
      stands = record { there = (drop next bytes, o.whole); behind = omega (arith, ap length o.whole, length-append (encoding o.item) (drop next bytes), length-drop at bytes, length-drop next bytes, long) };
    }

    owed_here : (e : ℕ) (s : ItemStands bytes at e) → Owes (drop at bytes) 1 s.stands.there.0
    owed_here e s = one_owed (drop at bytes) s.stands.there.0 s.item s.framed s.stands.there.1

    pub no_end : ((rest : List ℕ) → Owes (drop at bytes) 1 rest → ⊥) → IsEnd (ItemStands bytes at) 0
    no_end h = record { found = λ ne. absurd (ne refl); only = λ e s. absurd (h s.stands.there.0 (owed_here e s)) }

    only_end : (next : ℕ) → next ≤ len → ((rest : List ℕ) → Owes (drop at bytes) 1 rest → Owes (drop next bytes) 0 rest) → (e : ℕ) → ItemStands bytes at e → (next ≡ e) × (0 < e)
    only_end next lt down e s =
        let rest = s.stands.there.0 in
        let same : drop next bytes ≡ rest = owes_none (drop next bytes) rest (down rest (owed_here e s)) in
        let ends : e ≡ at + length (encoding s.item) = s.stands.behind in
        let some = item_long s.item s.framed in
        (omega (arith, ap length s.stands.there.1, length-append (encoding s.item) rest, ap length same, length-drop at bytes, length-drop next bytes, long, ends), omega (arith, ends, some))

    pub one_end : (next : ℕ) → next ≤ len → ((rest : List ℕ) → Owes (drop at bytes) 1 rest → Owes (drop next bytes) 0 rest) → ((rest : List ℕ) → Owes (drop next bytes) 0 rest → Owes (drop at bytes) 1 rest) → IsEnd (ItemStands bytes at) next
    one_end next lt down up = record {
      found = λ ne. stands next lt (owes_one (drop at bytes) (drop next bytes) (up (drop next bytes) (none_owed (drop next bytes))));
      only = only_end next lt down;
    }
