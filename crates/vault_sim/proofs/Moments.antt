-- What a call leaves of the pairs that a crash may leave, and may have left.
use Rattle.std.proofs.Common.{◌≡◌, ◌⊎◌, List, ◌∷◌, refl, sym, ap, subst, inl, inr}
use Rattle.ed2k_outside.specs.Crashes.{Crashes, Stays}
use Rattle.ed2k_outside.specs.Files.{Files, InFile, file_of}
use Rattle.ed2k_outside.specs.declared.vault.Which.{Which}
use Rattle.ed2k_outside.specs.declared.vault.Which.TheVariants.{Body, Log}
use Rattle.vault_sim.specs.Disks.{disk_files, moment_of}
use Rattle.vault_sim.specs.Images.{Moment, asks, settles, crash_view, file_image, image_at, since_of}
use Rattle.vault_sim.specs.MemVaults.{counted}
use Rattle.vault_sim.specs.Steps.{MayLeave, told}
use Rattle.vault_sim.specs.declared.disk.Disk.{Disk}
use Rattle.vault_sim.specs.declared.step.Asked.{Asked}
use Rattle.vault_sim.proofs.StepLemmas.{from-asked, may-rest}

-- a step that may also leave all as it is
abbrev pub MayRest : (Files → Files → Type 0) → Type 0
MayRest step = (d : Files) → step d d

-- what is read is among the images
pub disk-told : (disk : Disk) → image_at (moment_of disk) (disk_files disk)
disk-told disk = (told disk.body.steps.items disk.body.bytes.items disk.body.legal, told disk.log.steps.items disk.log.bytes.items disk.log.legal)

-- a call that was counted, after which each image is one of before after a step
pub crash-counted : (step : Files → Files → Type 0) (old new : Moment) (past later : List Moment) → later ≡ old ∷ past
    → ((c : Files) → image_at new c → (d : Files) × image_at old d × step d c)
    → Crashes step old.made (crash_view old past) (crash_view new later)
crash-counted step old new past later is made = record {
  image = made;
  since = λ t c early left. elim left as (λ _. since_of (old ∷ past) t c ⊎ ((d : Files) × image_at old d × step d c)) [
    | inl now ↦ inr (made c now.1)
    | inr before ↦ inl (subst (λ moments. since_of moments t c) is before.1)
  ];
}

-- a call that wasn't counted, and had no effect
pub crash-none : (step : Files → Files → Type 0) (old new : Moment) (past later : List Moment) → later ≡ past → new ≡ old → MayRest step
    → Crashes step old.made (crash_view old past) (crash_view new later)
crash-none step old new past later same is rest = record {
  image = λ c image. (c, subst (λ (m : Moment). image_at m c) is image, rest c);
  since = λ t c early left. inl (subst (λ moments. since_of moments t c) (ap (λ moments. old ∷ moments) same) (subst (λ (m : Moment). since_of (m ∷ later) t c) is left));
}

-- a call that was counted, and had no effect
pub crash-idle : (step : Files → Files → Type 0) (old new : Moment) (past later : List Moment) → later ≡ old ∷ past → new ≡ counted old → MayRest step
    → Crashes step old.made (crash_view old past) (crash_view new later)
crash-idle step old new past later before is rest =
    crash-counted step old new past later before (λ c image. (c, subst (λ (m : Moment). image_at m c) is image, rest c))

-- a call that asked something of one file
pub crash-asked : (which : Which) (asked : Asked) (old new : Moment) (past later : List Moment) → later ≡ old ∷ past → new ≡ asks which asked (counted old)
    → Crashes (InFile which (MayLeave asked)) old.made (crash_view old past) (crash_view new later)
crash-asked which asked old new past later before is =
    crash-counted (InFile which (MayLeave asked)) old new past later before (λ c image. image-asked which c (subst (λ (m : Moment). image_at m c) is image))
  where
    image-asked : (which : Which) (c : Files) → image_at (asks which asked (counted old)) c → (d : Files) × image_at old d × InFile which (MayLeave asked) d c
    image-asked Body c image =
        let from = from-asked old.body.asked asked old.body.base c.body image.0 in
        (record { body = from.0; log = c.log }, (from.1, image.1), (from.2, refl))
    image-asked Log c image =
        let from = from-asked old.log.asked asked old.log.base c.log image.1 in
        (record { body = c.body; log = from.0 }, (image.0, from.1), (from.2, refl))

-- a sync of one file
pub crash-settled : (which : Which) (disk : Disk) (new : Moment) (past later : List Moment) → later ≡ moment_of disk ∷ past → new ≡ settles which (file_of which (disk_files disk)) (counted (moment_of disk))
    → Crashes Stays disk.made (crash_view (moment_of disk) past) (crash_view new later)
crash-settled which disk new past later before is =
    crash-counted Stays (moment_of disk) new past later before (λ c image. (c, image-settled which c (subst (λ (m : Moment). image_at m c) is image), refl))
  where
    image-settled : (which : Which) (c : Files) → image_at (settles which (file_of which (disk_files disk)) (counted (moment_of disk))) c → image_at (moment_of disk) c
    image-settled Body c image = (subst (file_image (moment_of disk).body) (sym image.0) (disk-told disk).0, image.1)
    image-settled Log c image = (image.0, subst (file_image (moment_of disk).log) (sym image.1) (disk-told disk).1)

pub stays-rests : MayRest Stays
stays-rests d = refl

pub asked-rests : (which : Which) (asked : Asked) → MayRest (InFile which (MayLeave asked))
asked-rests Body asked d = (may-rest asked d.body, refl)
asked-rests Log asked d = (may-rest asked d.log, refl)
