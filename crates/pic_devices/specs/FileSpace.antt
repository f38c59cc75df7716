-- The registers of the file and their addresses: PIC16F62X and PIC16F87X data sheets, "Special Function Registers".
use Rattle.std.specs.Prelude.{ℕ, ◌%◌, ◌<◌, ◌==◌, if◌then◌else◌}
use Rattle.pic_devices.specs.declared.part.TheConstants.{FILE_SIZE}
use Rattle.pic_devices.specs.declared.part.PicPart.{PicPart}
use Rattle.pic_devices.specs.declared.part.PicPart.TheVariants.{F628, F877}
use Rattle.pic_devices.specs.declared.file_space.PicPlace.{PicPlace}
use Rattle.pic_devices.specs.declared.file_space.PicPlace.TheVariants.{Ram, Special}
use Rattle.pic_devices.specs.declared.file_space.PicRegister.{PicRegister}
use Rattle.pic_devices.specs.declared.file_space.PicRegister.TheVariants.{Indf, Pcl, Status, Fsr, Pclath, Porta, Portb, Portc, Portd, Porte, Trisa, Trisb, Trisc, Trisd, Trise, Pir1, Tmr1l, Tmr1h, T1con, Ccpr1l, Ccpr1h, Ccp1con, Rcsta, Txreg, Rcreg, Txsta, Spbrg, Cmcon, T2con, Pr2, Ccpr2l, Ccp2con, Adresh, Adresl, Adcon0, Adcon1, Eedata, Eeadr, Eecon1, Eecon2, Absent}
use Rattle.pic_devices.specs.Part.{is_ram, cell_of, bank_size}

abbrev pub f628_register : ℕ → PicRegister
f628_register a =
    if a == 0x1f then Cmcon
    else if a == 0x9a then Eedata
    else if a == 0x9b then Eeadr
    else if a == 0x9c then Eecon1
    else if a == 0x9d then Eecon2
    else Absent

abbrev pub f877_register : ℕ → PicRegister
f877_register a =
    if a == 0x07 then Portc
    else if a == 0x08 then Portd
    else if a == 0x09 then Porte
    else if a == 0x12 then T2con
    else if a == 0x1b then Ccpr2l
    else if a == 0x1d then Ccp2con
    else if a == 0x1e then Adresh
    else if a == 0x1f then Adcon0
    else if a == 0x87 then Trisc
    else if a == 0x88 then Trisd
    else if a == 0x89 then Trise
    else if a == 0x92 then Pr2
    else if a == 0x9e then Adresl
    else if a == 0x9f then Adcon1
    else if a == 0x10c then Eedata
    else if a == 0x10d then Eeadr
    else if a == 0x18c then Eecon1
    else if a == 0x18d then Eecon2
    else Absent

abbrev pub part_register : PicPart → ℕ → PicRegister
part_register F628 a = f628_register a
part_register F877 a = f877_register a

-- a register that both parts have, or one of the part's own
abbrev pub device_register : PicPart → ℕ → PicRegister
device_register part a =
    if a == 0x05 then Porta
    else if a == 0x06 then Portb
    else if a == 0x0c then Pir1
    else if a == 0x0e then Tmr1l
    else if a == 0x0f then Tmr1h
    else if a == 0x10 then T1con
    else if a == 0x15 then Ccpr1l
    else if a == 0x16 then Ccpr1h
    else if a == 0x17 then Ccp1con
    else if a == 0x18 then Rcsta
    else if a == 0x19 then Txreg
    else if a == 0x1a then Rcreg
    else if a == 0x85 then Trisa
    else if a == 0x86 then Trisb
    else if a == 0x98 then Txsta
    else if a == 0x99 then Spbrg
    else part_register part a

-- the processor's registers are seen from every bank
abbrev pub register_at : PicPart → ℕ → PicRegister
register_at part a =
    if a % bank_size == 0x00 then Indf
    else if a % bank_size == 0x02 then Pcl
    else if a % bank_size == 0x03 then Status
    else if a % bank_size == 0x04 then Fsr
    else if a % bank_size == 0x0a then Pclath
    else device_register part a

-- what is at an address of the file: a byte of RAM, by its number, or a special function register
abbrev pub place_at : PicPart → ℕ → PicPlace
place_at part a = if is_ram part a then Ram (cell_of a) else Special (register_at part a)

-- a byte of RAM is one of those of the file
abbrev pub IsWithin : PicPlace → Type 0
IsWithin (Ram cell) = cell < FILE_SIZE
IsWithin (Special r) = Unit {0}
