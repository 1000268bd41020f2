-- A block that is read or written at another address.
use Rattle.std.proofs.Common.{◌≡◌, ◌≢◌, ◌<◌, ℕ, Bool, true, false, ◌&&◌, if◌then◌else◌, List, [], refl, sym, ap, ◌∙◌, subst, arith, eqb, Some, None}
use Rattle.std.specs.List.{All}
use Rattle.std.specs.Prelude.{ℤ, pos, unwrap_or}
use Rattle.std.proofs.lemmas.Bool.{eq-eqb}
use Rattle.pi_tuple.specs.Tuples.{ref_tag}
use Rattle.fault_schedule.specs.declared.fault.Crossing.TheVariants.{AdapterToTarget, MediumToTarget, TargetToMedium}
use Rattle.fault_schedule.specs.declared.fault.FaultKind.TheVariants.{Shift}
use Rattle.integrity_payload.specs.declared.payload.Owner.{Owner}
use Rattle.bio_core.specs.declared.request.Dir.TheVariants.{Write}
use Rattle.rig_api.specs.Passing.{is_one}
use Rattle.block_path.specs.Routes.{by_target, medium_lba, moved, passes, stored_lba, wire_lba}
use Rattle.block_path.specs.WayIn.{from_device, verified}
use Rattle.block_path.specs.WayOut.{at_device}
use Rattle.walk_laws.specs.Settings.{Block, Setting, route}
use Rattle.walk_laws.specs.PlainMap.{MapEntry}
use Rattle.walk_laws.specs.UnderMap.{stored_as}
use Rattle.walk_laws.proofs.CalmWays.{off_medium, onto_medium, quiet, wire}
use Rattle.mode_map.specs.Finders.{IsCleanBlock, is_served}
use Rattle.mode_map.specs.Failures.{Comes, Delivers, Finds, astray_cell, at_home, expected, failure_cell, found_if, hit_by_wire, read_comes, read_end, refused_astray, stored_tag, target_asks_tag, write_comes, write_end}
use Rattle.mode_map.specs.OtherFailures.{read_led, write_led}
use Rattle.mode_map.specs.declared.failures.Cell.TheVariants.{Unseen}
use Rattle.mode_map.specs.declared.failures.Failure.TheVariants.{MisdirectedRead, MisdirectedWrite}
use Rattle.mode_map.specs.declared.failures.Link.{Link}
use Rattle.mode_map.specs.declared.failures.Link.TheVariants.{OnMedium, OnWire}
use Rattle.mode_map.specs.declared.failures.Place.TheVariants.{Hit, Home}
use Rattle.mode_map.specs.declared.finder.Seen.TheVariants.{Target}
use Rattle.mode_map.proofs.OtherAddress.{read-astray, write-astray}
use Rattle.mode_map.proofs.Finding.{clean-out, kept, kept-body, kept-open, kept-proper, proper, served-some}
use Rattle.mode_map.proofs.Kept.{older, other, same-joined}
use Rattle.mode_map.proofs.Lines.{reads, writes}

still : (a : ℕ) → moved a (pos 0) ≡ a
still a = omega arith

-- where a shift leads
led : (b : Block) (by : ℤ) (lba : ℕ) → moved lba (unwrap_or (if eqb b.op b.op then Some by else None) (pos 0)) ≡ moved lba by
led b by lba = ap (λ c. moved lba (unwrap_or (if c then Some by else None) (pos 0))) (eq-eqb b.op b.op refl)

pub found-at : (m : Setting) (b : Block) (link : Link) (by : ℤ) → medium_lba (read_led b link by) (route m b) ≡ moved (route m b).lba by
found-at m b OnWire by = still (wire_lba (read_led b OnWire by) (route m b)) ∙ led b by (route m b).lba
found-at m b OnMedium by = ap (λ a. moved a (unwrap_or (if eqb b.op b.op then Some by else None) (pos 0))) (still (route m b).lba) ∙ led b by (route m b).lba

pub stored-at : (m : Setting) (b : Block) (link : Link) (by : ℤ) → stored_lba (write_led b link by) (route m b) ≡ moved (route m b).lba by
stored-at m b OnWire by = still (wire_lba (write_led b OnWire by) (route m b)) ∙ led b by (route m b).lba
stored-at m b OnMedium by = ap (λ a. moved a (unwrap_or (if eqb b.op b.op then Some by else None) (pos 0))) (still (route m b).lba) ∙ led b by (route m b).lba

quieted : (m : Setting) (e : MapEntry) → IsCleanBlock m e → IsCleanBlock (quiet m m.mode.dix m.mode.dif m.ty) e
quieted m e c = record { size = c.size; bytes = c.bytes; app = c.app; own = c.own; unescaped = c.unescaped; mask = c.mask }

module _ (m : Setting) (b : Block) (owner : Owner) (by : ℤ) (served : is_served m.mode.protect ≡ true) where
  protect : 0 < m.mode.protect
  protect = served-some m.mode.protect served

  -- ---- a read

  pub misread : (link : Link) (e : MapEntry) → IsCleanBlock m e → ref_tag (medium_lba (read_led b link by) (route m b)) ≢ ref_tag (route m b).lba →
      read_comes m b owner (read_led b link by) (stored_as m (medium_lba (read_led b link by) (route m b)) e) ≡ expected (failure_cell (MisdirectedRead link) m.mode m.ty) e.body
  misread OnWire e c n =
      let there = wire_lba (read_led b OnWire by) (route m b) in
      ap (λ a. read_comes m b owner (read_led b OnWire by) (stored_as m a e)) (still there)
      ∙ reads b AdapterToTarget (Shift by) (λ i. refl) m owner (stored_as m there e)
      ∙ read-astray m b served c.mask owner there m.mode.dix m.mode.dif m.ty e (quieted m e c) (λ h. n (ap ref_tag (still there) ∙ h))
      ∙ ap (λ x. expected x e.body) (sym (same-joined (astray_cell m.mode m.ty)))
  misread OnMedium e c n =
      let lba = medium_lba (read_led b OnMedium by) (route m b) in
      reads b MediumToTarget (Shift by) (λ i. refl) m owner (stored_as m lba e)
      ∙ ap (λ x. read_end m (verified (route m b) owner (from_device [] (route m b) (by_target x)))) (sym (off_medium (route m b) (stored_as m lba e)))
      ∙ other m b owner served e lba c n

  -- ---- a write

  module _ (e : MapEntry) (c : IsCleanBlock m e) where
    -- what is stored of it
    abbrev k : MapEntry
    k = kept m b (served-some m.mode.protect served) c.mask m.mode.dix m.mode.dif m.ty e

    same-body : (kept m b (served-some m.mode.protect served) c.mask m.mode.dix m.mode.dif m.ty e).body ≡ e.body
    same-body = kept-body m b protect c.mask m.mode.dix m.mode.dif m.ty e

    clean-kept : IsCleanBlock m (kept m b (served-some m.mode.protect served) c.mask m.mode.dix m.mode.dif m.ty e)
    clean-kept =
        let p = kept-proper m b protect c.mask m.mode.dix m.mode.dif m.ty e (proper m e c) in
        record {
          size = p.size;
          bytes = subst (All (λ x. x < 256)) (sym same-body) c.bytes;
          app = p.app;
          own = p.own;
          unescaped = kept-open m b protect c.mask m.mode.dix m.mode.dif m.ty e c.unescaped;
          mask = c.mask;
        }

    on-wire : (next : List ℕ → Comes) → ref_tag (stored_lba (write_led b OnWire by) (route m b)) ≢ ref_tag (route m b).lba →
        write_comes m b (write_led b OnWire by) e next ≡ (if refused_astray m.mode m.ty then Finds Target Write else next (stored_as m (if passes m.mode m.ty then (route m b).lba else wire_lba (write_led b OnWire by) (route m b)) k))
    on-wire next n =
        let there = wire_lba (write_led b OnWire by) (route m b) in
        writes b AdapterToTarget (Shift by) (λ i. refl) m served e c next
        ∙ write-astray m b served c.mask owner there m.mode.dix m.mode.dif m.ty e next (proper m e c) c.unescaped (λ h. n (ap ref_tag (still there) ∙ h))

    on-medium : (next : List ℕ → Comes) → write_comes m b (write_led b OnMedium by) e next ≡ next (at_home m b k)
    on-medium next =
        let w = wire m b k in
        writes b TargetToMedium (Shift by) (λ i. refl) m served e c next
        ∙ ap (λ x. write_end (at_device w (by_target x)) next) (sym (onto_medium (route m b) w) ∙ (clean-out m b protect c.mask m.mode.dix m.mode.dif m.ty e (proper m e c) c.unescaped).stores)

    -- the older block is still there
    if-refused : (refused : Bool) (body : List ℕ) → (if refused then Finds Target Write else Delivers body) ≡ expected (found_if refused Target Write Unseen) body
    if-refused true body = refl
    if-refused false body = refl

    pub written-off : (link : Link) (old : MapEntry) → IsCleanBlock m old → ref_tag (stored_lba (write_led b link by) (route m b)) ≢ ref_tag (route m b).lba →
        write_comes m b (write_led b link by) e (λ stored. read_comes m b owner [] (at_home m b old)) ≡ expected (failure_cell (MisdirectedWrite link Home) m.mode m.ty) old.body
    written-off OnWire old d n =
        on-wire (λ stored. read_comes m b owner [] (at_home m b old)) n
        ∙ ap (λ x. if refused_astray m.mode m.ty then Finds Target Write else x) (older m b owner served old d)
        ∙ if-refused (refused_astray m.mode m.ty) old.body
        ∙ ap (λ x. expected x old.body) (sym (same-joined (found_if (refused_astray m.mode m.ty) Target Write Unseen)))
    written-off OnMedium old d n = on-medium (λ stored. read_comes m b owner [] (at_home m b old)) ∙ older m b owner served old d

    -- and the one that is read lies where the write went
    module _ (there : Block) where
      -- of another tag than its address's
      foreign : ref_tag (route m b).lba ≢ ref_tag (route m there).lba → read_comes m there owner [] (at_home m b k) ≡ expected (stored_tag m.mode m.ty) e.body
      foreign n =
          other m there owner served k (route m b).lba clean-kept n ∙ ap (λ x. expected x k.body) (same-joined (stored_tag m.mode m.ty)) ∙ ap (expected (stored_tag m.mode m.ty)) same-body

      own : (lba : ℕ) → (route m there).lba ≡ lba → read_comes m there owner [] (stored_as m lba k) ≡ Delivers e.body
      own lba is = ap (λ a. read_comes m there owner [] (stored_as m a k)) (sym is) ∙ older m there owner served k clean-kept ∙ ap Delivers same-body

      by-passing : (passing asks : Bool) (lba : ℕ) → (route m there).lba ≡ lba → ref_tag (route m b).lba ≢ ref_tag (route m there).lba →
          (if passing && asks then Finds Target Write else read_comes m there owner [] (stored_as m (if passing then (route m b).lba else lba) k))
          ≡ expected (if passing then found_if (passing && asks) Target Write (stored_tag m.mode m.ty) else Unseen) e.body
      by-passing true true lba is n = refl
      by-passing true false lba is n = foreign n
      by-passing false asks lba is n = own lba is

      pub hit : (link : Link) → ref_tag (stored_lba (write_led b link by) (route m b)) ≢ ref_tag (route m b).lba → (route m there).lba ≡ stored_lba (write_led b link by) (route m b) →
          write_comes m b (write_led b link by) e (read_comes m there owner []) ≡ expected (failure_cell (MisdirectedWrite link Hit) m.mode m.ty) e.body
      hit OnWire n is =
          let lba = wire_lba (write_led b OnWire by) (route m b) in
          on-wire (read_comes m there owner []) n
          ∙ by-passing (passes m.mode m.ty) (target_asks_tag m.mode m.ty && is_one m.ty) lba (is ∙ still lba) (λ h. n (ap ref_tag (sym is) ∙ sym h))
          ∙ ap (λ x. expected x e.body) (sym (same-joined (hit_by_wire m.mode m.ty)))
      hit OnMedium n is =
          on-medium (read_comes m there owner [])
          ∙ foreign (λ h. n (ap ref_tag (sym is) ∙ sym h))
          ∙ ap (λ x. expected x e.body) (sym (same-joined (stored_tag m.mode m.ty)))
