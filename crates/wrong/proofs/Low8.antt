-- Made by oracle/trial.py: the sheet sheets/Low8.tsv, and the bits that the unchanged Rust has after each job.
use mathlib.Core.Path.{◌≡◌, refl}
use mathlib.Core.Bool.{false}
use mathlib.Core.List.{List, [], ◌∷◌, map}
use Rattle.steps.specs.declared.solve.Constants.{Constants}
use Rattle.start.specs.declared.coef.Reorder.TheVariants.{Each}
use Rattle.start.specs.Buffers.{Buffers}
use Rattle.start.specs.Coef.{Coef, coef, change}
use Rattle.work.specs.Work.{starting}
use Rattle.calls.specs.Jobs.{channel_blown}
use lib.Ieee.{Float, binary32}
use lib.Count.{count_trailing_zeros}
use lib.Ieee.{add, sub, mul, div, sum, round, units, odd, size, span, climb, of_bits, of_fields, neg, ne, eq, lt, of_int}
use Rattle.fold.specs.Fold.{upto}
use Rattle.float.specs.Ops.{mul_add, fused, square, product, half, midpoint, isqrt, halves, root, clamp}
use Rattle.utils.specs.Blocks.{from_blocks, to_blocks}
use Rattle.utils.specs.Dct.{on_line, idct8, dct8, idct8x8, dct8x8}
use Rattle.utils.specs.Auxiliary.{upsample_pixels}
use Rattle.interval.specs.Interval.{lowest, highest, dequantised, mid}
use Rattle.steps.specs.Solve.{next_term, term_of, constants, pushed}
use Rattle.steps.specs.Step.{data_alpha, gradient_norm, moved_by, moved}
use Rattle.gradients.specs.Tv.{difference, bump, bump_unless, tv_differences_at, tv_differences, g_norm_of, tv_channel_derivatives, tv_derivatives, store, tv_gradient_px, tv_alpha, tv_gradient}
use Rattle.gradients.specs.Tgv.{tgv_differences_at, tgv_differences, g2_norm_of, tgv_beside, tgv_up_down, tgv_corners, tgv_channel_derivatives, tgv_derivatives, tgv_gradient_px, tgv_alpha, tgv_gradient}
use Rattle.gradients.specs.Blend.{blended}
use Rattle.start.specs.Coef.{dequantise, image_block, image_data, init_dct_target}
use Rattle.start.specs.Auxiliary.{init_pixels, aux_init}
use Rattle.fidelity.specs.DctGradient.{cosb_of, cosbs_of, spread, spread_block, gradient_block, dct_gradient, data_gradient}
use Rattle.projection.specs.Projection.{mean_of, split_at, split, clamp_at, clamp_block, clamped, keep, onto_box, back, project_full, project_means, project_onto_box}
use Rattle.projection.specs.Blown.{is_blown}
use Rattle.work.specs.Work.{pushing, data_job, blending, moving, projecting}
use Rattle.wrong.specs.Sheet.{low8}

unfoldable pub c0 : Coef
c0 = coef (record { width = 8; height = 8; horizontal = 1; vertical = 1 }) low8.levels low8.tables

unfoldable pub k0 : Constants
k0 = record { term = of_bits binary32 1065353216; factor = of_bits binary32 0; step_size = of_bits binary32 1075039546; second = of_bits binary32 1054423333 }

pub constants_0 : constants 8 8 2 (of_bits binary32 1058642330) 0 ≡ k0
unfolding k0 count_trailing_zeros add sub mul div sum round units odd size span climb of_bits of_fields neg ne eq lt of_int upto mul_add fused square product half midpoint isqrt halves root clamp from_blocks to_blocks on_line idct8 dct8 idct8x8 dct8x8 upsample_pixels lowest highest dequantised mid next_term term_of constants pushed data_alpha gradient_norm moved_by moved difference bump bump_unless tv_differences_at tv_differences g_norm_of tv_channel_derivatives tv_derivatives store tv_gradient_px tv_alpha tv_gradient tgv_differences_at tgv_differences g2_norm_of tgv_beside tgv_up_down tgv_corners tgv_channel_derivatives tgv_derivatives tgv_gradient_px tgv_alpha tgv_gradient blended dequantise image_block image_data init_dct_target init_pixels aux_init cosb_of cosbs_of spread spread_block gradient_block dct_gradient data_gradient mean_of change split_at split clamp_at clamp_block clamped keep onto_box back project_full project_means project_onto_box is_blown pushing data_job blending moving projecting
constants_0 = refl

unfoldable pub k1 : Constants
k1 = record { term = of_bits binary32 1070537661; factor = of_bits binary32 1049641471; step_size = of_bits binary32 1075039546; second = of_bits binary32 1054423333 }

pub constants_1 : constants 8 8 2 (of_bits binary32 1058642330) 1 ≡ k1
unfolding k1 count_trailing_zeros add sub mul div sum round units odd size span climb of_bits of_fields neg ne eq lt of_int upto mul_add fused square product half midpoint isqrt halves root clamp from_blocks to_blocks on_line idct8 dct8 idct8x8 dct8x8 upsample_pixels lowest highest dequantised mid next_term term_of constants pushed data_alpha gradient_norm moved_by moved difference bump bump_unless tv_differences_at tv_differences g_norm_of tv_channel_derivatives tv_derivatives store tv_gradient_px tv_alpha tv_gradient tgv_differences_at tgv_differences g2_norm_of tgv_beside tgv_up_down tgv_corners tgv_channel_derivatives tgv_derivatives tgv_gradient_px tgv_alpha tgv_gradient blended dequantise image_block image_data init_dct_target init_pixels aux_init cosb_of cosbs_of spread spread_block gradient_block dct_gradient data_gradient mean_of change split_at split clamp_at clamp_block clamped keep onto_box back project_full project_means project_onto_box is_blown pushing data_job blending moving projecting
constants_1 = refl

unfoldable pub l0 : List Float
l0 = map (of_bits binary32) (3134221824 ∷ 1060769382 ∷ 1054359480 ∷ 3190980880 ∷ 3188872098 ∷ 1058410772 ∷ 3200136659 ∷ 3174592696 ∷ 1050429741 ∷ 3212704074 ∷ 3197875087 ∷ 1058612949 ∷ 3204812749 ∷ 3181775829 ∷ 3174954680 ∷ 1026262440 ∷ 3207153000 ∷ 3198018238 ∷ 3194759453 ∷ 3197719054 ∷ 3198644100 ∷ 1057777366 ∷ 3168661704 ∷ 1050432787 ∷ 1057217118 ∷ 1041449018 ∷ 3197864974 ∷ 1052215091 ∷ 1059417290 ∷ 3155928560 ∷ 3213762833 ∷ 1061329906 ∷ 1056789904 ∷ 1058037026 ∷ 1065006302 ∷ 1047969148 ∷ 3212972758 ∷ 1056537196 ∷ 1048534519 ∷ 3212827436 ∷ 3193776629 ∷ 3207128990 ∷ 3200406625 ∷ 1039914314 ∷ 3196632980 ∷ 1046228058 ∷ 3189887934 ∷ 1051678350 ∷ 3214367294 ∷ 1019480476 ∷ 3197941088 ∷ 3209057587 ∷ 3180609008 ∷ 1062744934 ∷ 3188593706 ∷ 1058741620 ∷ 1065449133 ∷ 3164350200 ∷ 1048681968 ∷ 1061557053 ∷ 3194523628 ∷ 3185447850 ∷ 3204095860 ∷ 3192316088 ∷ [])

unfoldable pub l1 : List Float
l1 = map (of_bits binary32) (0 ∷ 0 ∷ 0 ∷ 0 ∷ 0 ∷ 0 ∷ 0 ∷ 0 ∷ 0 ∷ 0 ∷ 0 ∷ 0 ∷ 0 ∷ 0 ∷ 0 ∷ 0 ∷ 0 ∷ 0 ∷ 0 ∷ 0 ∷ 0 ∷ 0 ∷ 0 ∷ 0 ∷ 0 ∷ 0 ∷ 0 ∷ 0 ∷ 0 ∷ 0 ∷ 0 ∷ 0 ∷ 0 ∷ 0 ∷ 0 ∷ 0 ∷ 0 ∷ 0 ∷ 0 ∷ 0 ∷ 0 ∷ 0 ∷ 0 ∷ 0 ∷ 0 ∷ 0 ∷ 0 ∷ 0 ∷ 0 ∷ 0 ∷ 0 ∷ 0 ∷ 0 ∷ 0 ∷ 0 ∷ 0 ∷ 0 ∷ 0 ∷ 0 ∷ 0 ∷ 0 ∷ 0 ∷ 0 ∷ 0 ∷ [])

unfoldable pub l2 : List Float
l2 = map (of_bits binary32) (0 ∷ 0 ∷ 0 ∷ 0 ∷ 0 ∷ 0 ∷ 1065353216 ∷ 3212836864 ∷ 0 ∷ 0 ∷ 0 ∷ 0 ∷ 0 ∷ 0 ∷ 0 ∷ 0 ∷ 0 ∷ 0 ∷ 0 ∷ 0 ∷ 0 ∷ 0 ∷ 0 ∷ 0 ∷ 0 ∷ 0 ∷ 0 ∷ 0 ∷ 3212836864 ∷ 0 ∷ 0 ∷ 0 ∷ 1065353216 ∷ 1073741824 ∷ 0 ∷ 0 ∷ 0 ∷ 0 ∷ 0 ∷ 0 ∷ 0 ∷ 3212836864 ∷ 0 ∷ 0 ∷ 0 ∷ 3221225472 ∷ 0 ∷ 0 ∷ 0 ∷ 0 ∷ 0 ∷ 0 ∷ 0 ∷ 0 ∷ 0 ∷ 0 ∷ 0 ∷ 0 ∷ 0 ∷ 0 ∷ 3221225472 ∷ 0 ∷ 0 ∷ 0 ∷ [])

unfoldable pub b0_0 : Buffers
b0_0 = record { plane = l0; prior = l0; gradient = l1; across = l1; down = l1; saved = l2 }

unfoldable pub b1_0 : Buffers
b1_0 = record { plane = l0; prior = l0; gradient = l1; across = l1; down = l1; saved = l2 }

unfoldable pub b2_0 : Buffers
b2_0 = record { plane = l0; prior = l0; gradient = l1; across = l1; down = l1; saved = l2 }

unfoldable pub l3 : List Float
l3 = map (of_bits binary32) (3222514605 ∷ 1081444198 ∷ 1068220946 ∷ 3225528926 ∷ 3181697557 ∷ 1082476937 ∷ 3231451613 ∷ 1073756518 ∷ 1081900641 ∷ 3232824153 ∷ 3223036057 ∷ 1087955045 ∷ 3229926196 ∷ 3220999880 ∷ 1059582211 ∷ 1050942524 ∷ 3230534872 ∷ 1059941176 ∷ 1080281892 ∷ 3230422078 ∷ 3224892598 ∷ 1087312873 ∷ 3202080163 ∷ 3165132934 ∷ 1078217767 ∷ 1065016590 ∷ 3233851720 ∷ 1076396858 ∷ 1084272643 ∷ 3220211317 ∷ 3233811704 ∷ 1085477442 ∷ 1059977581 ∷ 1074122394 ∷ 1083040848 ∷ 1060728299 ∷ 3234693316 ∷ 1083470489 ∷ 1078308445 ∷ 3232817124 ∷ 1071876103 ∷ 3231130075 ∷ 3224166657 ∷ 1082795419 ∷ 3222379684 ∷ 1056746871 ∷ 3229337364 ∷ 1075760232 ∷ 3231493198 ∷ 1082680677 ∷ 3212848648 ∷ 3232830108 ∷ 1050908088 ∷ 1085607518 ∷ 3223088911 ∷ 1083934261 ∷ 1082429960 ∷ 3226229781 ∷ 1061512383 ∷ 1085453277 ∷ 3227700084 ∷ 1061408102 ∷ 3227043820 ∷ 3207452248 ∷ [])

unfoldable pub l4 : List Float
l4 = map (of_bits binary32) (1060796061 ∷ 3197885716 ∷ 3206070304 ∷ 1023456696 ∷ 1060808188 ∷ 3212127230 ∷ 1051142076 ∷ 0 ∷ 3215331056 ∷ 1060118402 ∷ 1063714972 ∷ 3213843281 ∷ 1054973093 ∷ 1024336114 ∷ 1035255344 ∷ 0 ∷ 1052026898 ∷ 1033844926 ∷ 3180131838 ∷ 3168917344 ∷ 1063263896 ∷ 3205715548 ∷ 1051341856 ∷ 0 ∷ 3200128159 ∷ 3202690091 ∷ 1059686816 ∷ 1049842273 ∷ 3207060322 ∷ 3213683141 ∷ 1072656138 ∷ 0 ∷ 1032688336 ∷ 1054125944 ∷ 3208447359 ∷ 3214994054 ∷ 1069576561 ∷ 3195246305 ∷ 3214924117 ∷ 0 ∷ 3202562626 ∷ 1049590491 ∷ 1057006810 ∷ 3200759014 ∷ 1056363969 ∷ 3200188428 ∷ 1056972854 ∷ 0 ∷ 1067084388 ∷ 3198744058 ∷ 3203396870 ∷ 1060359541 ∷ 1063959332 ∷ 3212556400 ∷ 1061069438 ∷ 0 ∷ 3213092681 ∷ 1049321568 ∷ 1057309765 ∷ 3212843932 ∷ 1039338542 ∷ 3200457354 ∷ 1050095384 ∷ 0 ∷ [])

unfoldable pub l5 : List Float
l5 = map (of_bits binary32) (1050483099 ∷ 3218867160 ∷ 3208247716 ∷ 1061537561 ∷ 3200382409 ∷ 3207254671 ∷ 1051096828 ∷ 1035074352 ∷ 3212274174 ∷ 1060046827 ∷ 1033272322 ∷ 3211120604 ∷ 1044865068 ∷ 1059137617 ∷ 1016986792 ∷ 1049027678 ∷ 1066831843 ∷ 1055359707 ∷ 3180715518 ∷ 1059613856 ∷ 1064903820 ∷ 3205420398 ∷ 3213535566 ∷ 1055449809 ∷ 3164992192 ∷ 1054284327 ∷ 1067728242 ∷ 3186663892 ∷ 3218393403 ∷ 1056855964 ∷ 1068371152 ∷ 3219209103 ∷ 3207984453 ∷ 3214713440 ∷ 3215847303 ∷ 3186730414 ∷ 1061144034 ∷ 3196806207 ∷ 3201341658 ∷ 1068221242 ∷ 3212274175 ∷ 1060046827 ∷ 1033272324 ∷ 3211120604 ∷ 1044865072 ∷ 1059137616 ∷ 1016986784 ∷ 1049027674 ∷ 1074554998 ∷ 3174045770 ∷ 1057958312 ∷ 1069954104 ∷ 3189666036 ∷ 3212047835 ∷ 3199440223 ∷ 3209483682 ∷ 0 ∷ 0 ∷ 0 ∷ 0 ∷ 0 ∷ 0 ∷ 0 ∷ 0 ∷ [])

unfoldable pub b3_0 : Buffers
b3_0 = record { plane = l0; prior = l0; gradient = l3; across = l4; down = l5; saved = l2 }

unfoldable pub l6 : List Float
l6 = map (of_bits binary32) (1043789242 ∷ 1054517294 ∷ 1050841875 ∷ 1031688075 ∷ 3188450077 ∷ 1048938046 ∷ 1008390089 ∷ 3192808428 ∷ 3141723865 ∷ 3205454900 ∷ 3186212035 ∷ 1032639678 ∷ 3192543031 ∷ 1033217698 ∷ 3183997437 ∷ 1015670791 ∷ 3198220997 ∷ 3199794046 ∷ 3204594114 ∷ 1026603496 ∷ 3184646734 ∷ 1026532959 ∷ 1003720959 ∷ 1050486578 ∷ 1049429285 ∷ 1032435277 ∷ 1042976530 ∷ 1042049632 ∷ 1048706451 ∷ 1041013161 ∷ 3206822409 ∷ 1051025684 ∷ 1055008407 ∷ 1053628709 ∷ 1059194413 ∷ 1044171555 ∷ 3204691251 ∷ 1040166076 ∷ 1006911588 ∷ 3205582655 ∷ 3199577980 ∷ 3197428973 ∷ 3190591363 ∷ 3193664345 ∷ 3182884538 ∷ 1043640640 ∷ 1041818903 ∷ 1041771933 ∷ 3209480397 ∷ 3198041635 ∷ 3194572284 ∷ 3199161126 ∷ 3183959225 ∷ 1053693146 ∷ 1029036695 ∷ 1046980176 ∷ 1060114966 ∷ 1047260728 ∷ 1044745317 ∷ 1051510184 ∷ 1028372871 ∷ 3190569476 ∷ 3194373381 ∷ 3188755901 ∷ [])

unfoldable pub b4_0 : Buffers
b4_0 = record { plane = l6; prior = l0; gradient = l3; across = l4; down = l5; saved = l2 }

unfoldable pub l7 : List Float
l7 = map (of_bits binary32) (1040915269 ∷ 1056794619 ∷ 1050517805 ∷ 1024170805 ∷ 3189032340 ∷ 1050775781 ∷ 3173804456 ∷ 3191595941 ∷ 1034453327 ∷ 3207350736 ∷ 3189930333 ∷ 1045428130 ∷ 3196073284 ∷ 1026971988 ∷ 3182503848 ∷ 1020067916 ∷ 3200796091 ∷ 3196794246 ∷ 3203192174 ∷ 3157258960 ∷ 3191728969 ∷ 1041333043 ∷ 1024037928 ∷ 1048868597 ∷ 1050683052 ∷ 1032054020 ∷ 1031121252 ∷ 1045139008 ∷ 1052143754 ∷ 1037348118 ∷ 3209607210 ∷ 1055153954 ∷ 1053585348 ∷ 1054292833 ∷ 1060437066 ∷ 1044395463 ∷ 3207438246 ∷ 1046535950 ∷ 1040410470 ∷ 3207362120 ∷ 3197172174 ∷ 3199859956 ∷ 3195869159 ∷ 3185798758 ∷ 3179971118 ∷ 1041098031 ∷ 1033670342 ∷ 1046146569 ∷ 3210995330 ∷ 3191302640 ∷ 3193765691 ∷ 3202011782 ∷ 3185098192 ∷ 1056708124 ∷ 3147331440 ∷ 1047569210 ∷ 1060748812 ∷ 1043843701 ∷ 1043211248 ∷ 1054106480 ∷ 3141321024 ∷ 3190131136 ∷ 3193983687 ∷ 3188829710 ∷ [])

unfoldable pub l8 : List Float
l8 = map (of_bits binary32) (3160989983 ∷ 1014008308 ∷ 3173905056 ∷ 1008114892 ∷ 3179713948 ∷ 1034139968 ∷ 1056964608 ∷ 3204448256 ∷ 1009244495 ∷ 1019343061 ∷ 944160256 ∷ 1013993516 ∷ 1034701760 ∷ 1034731490 ∷ 1031862252 ∷ 3184510235 ∷ 1027282649 ∷ 990917656 ∷ 1001445008 ∷ 1036600448 ∷ 3168329048 ∷ 1031989443 ∷ 3190004398 ∷ 1028781772 ∷ 1019163050 ∷ 3140934568 ∷ 3166931198 ∷ 1006757040 ∷ 3209969575 ∷ 1035388418 ∷ 3139651774 ∷ 1032526465 ∷ 1062766917 ∷ 1070225621 ∷ 1029230826 ∷ 3176287085 ∷ 3180718348 ∷ 1027503051 ∷ 1034100366 ∷ 1005441344 ∷ 3178160233 ∷ 3206996485 ∷ 3185296583 ∷ 3174488400 ∷ 999042713 ∷ 3212836864 ∷ 1022822386 ∷ 3182299676 ∷ 1035668927 ∷ 3169351383 ∷ 1041322250 ∷ 1026617242 ∷ 1040373849 ∷ 1003001392 ∷ 3197872839 ∷ 3141451541 ∷ 3180206228 ∷ 1031895490 ∷ 1023506740 ∷ 3168050720 ∷ 3212836864 ∷ 1047682391 ∷ 3193190869 ∷ 3188211393 ∷ [])

unfoldable pub b5_0 : Buffers
b5_0 = record { plane = l7; prior = l0; gradient = l3; across = l7; down = l5; saved = l8 }

unfoldable pub l9 : List Float
l9 = map (of_bits binary32) (1043513938 ∷ 1054602707 ∷ 1049435400 ∷ 1035865867 ∷ 3189077489 ∷ 1047858268 ∷ 1028636582 ∷ 3194213893 ∷ 1017078268 ∷ 3205842414 ∷ 3186689688 ∷ 1035725535 ∷ 3190956776 ∷ 1034134966 ∷ 3184021173 ∷ 1017518952 ∷ 3198242938 ∷ 3196449382 ∷ 3204916606 ∷ 1032886948 ∷ 3189052428 ∷ 1021436972 ∷ 1028627385 ∷ 1048279762 ∷ 1048770910 ∷ 1026304174 ∷ 1042702094 ∷ 1042119970 ∷ 1049403358 ∷ 1040910915 ∷ 3208175454 ∷ 1052183920 ∷ 1052682453 ∷ 1052935736 ∷ 1059149668 ∷ 1043388565 ∷ 3205840589 ∷ 1041474969 ∷ 1036055590 ∷ 3205822248 ∷ 3197807256 ∷ 3197056574 ∷ 3193365936 ∷ 3191159707 ∷ 3158004968 ∷ 1039117864 ∷ 1041362424 ∷ 1043713872 ∷ 3209614063 ∷ 3195141855 ∷ 3192059156 ∷ 3198727906 ∷ 3186363035 ∷ 1053378604 ∷ 1023914586 ∷ 1040555786 ∷ 1059397455 ∷ 1047597818 ∷ 1041639997 ∷ 1050713318 ∷ 1031207634 ∷ 3191137472 ∷ 3188870316 ∷ 3187847411 ∷ [])

unfoldable pub b6_0 : Buffers
b6_0 = record { plane = l9; prior = l7; gradient = l3; across = l7; down = l5; saved = l8 }

unfoldable pub l10 : List Float
l10 = map (of_bits binary32) (1067641142 ∷ 3205263476 ∷ 3209872769 ∷ 1058372681 ∷ 1065122884 ∷ 3226645241 ∷ 1074408894 ∷ 3221022486 ∷ 3220001899 ∷ 3187337120 ∷ 1065916694 ∷ 3223790464 ∷ 1079174404 ∷ 1058571347 ∷ 1060379843 ∷ 1057660552 ∷ 1067537872 ∷ 1075522427 ∷ 3220019086 ∷ 1067201256 ∷ 1068618220 ∷ 3229536937 ∷ 1079055328 ∷ 3215421762 ∷ 3214518369 ∷ 1048422917 ∷ 1078835471 ∷ 3223054029 ∷ 1052274958 ∷ 3210395336 ∷ 1054097524 ∷ 3221120262 ∷ 3219564436 ∷ 3217398154 ∷ 3217969673 ∷ 1039042828 ∷ 1067150798 ∷ 3225618887 ∷ 1070203377 ∷ 1059038682 ∷ 3184961624 ∷ 1073206097 ∷ 3190533122 ∷ 3215561193 ∷ 1080085040 ∷ 3221783388 ∷ 1078964529 ∷ 3181226553 ∷ 1070482911 ∷ 3189029300 ∷ 1063975413 ∷ 1069771019 ∷ 1060221815 ∷ 3225510019 ∷ 1066125546 ∷ 3227591199 ∷ 3223717862 ∷ 1069930254 ∷ 3207323186 ∷ 3226589460 ∷ 1072514190 ∷ 3213112367 ∷ 1079683144 ∷ 3206151853 ∷ [])

unfoldable pub b7_0 : Buffers
b7_0 = record { plane = l9; prior = l7; gradient = l10; across = l7; down = l5; saved = l8 }

unfoldable pub l11 : List Float
l11 = map (of_bits binary32) (1026829793 ∷ 1079650819 ∷ 3209977101 ∷ 1071764094 ∷ 3221874474 ∷ 1043136703 ∷ 1082224553 ∷ 3232586038 ∷ 1064339539 ∷ 3234817215 ∷ 1079320975 ∷ 3206239931 ∷ 1040680588 ∷ 1080870628 ∷ 3231101024 ∷ 1077077193 ∷ 3224772745 ∷ 1085099823 ∷ 3238178358 ∷ 1082363678 ∷ 3226557866 ∷ 3231000612 ∷ 1087029148 ∷ 3219586562 ∷ 1074304608 ∷ 3227583405 ∷ 1084788054 ∷ 3230477082 ∷ 1085043270 ∷ 1075158622 ∷ 3234717303 ∷ 1079794325 ∷ 1045874812 ∷ 1067984340 ∷ 1074595799 ∷ 1076908837 ∷ 3232676652 ∷ 1051330119 ∷ 1080799915 ∷ 3231860535 ∷ 3209755195 ∷ 3218402002 ∷ 3220810790 ∷ 3221373397 ∷ 1087980990 ∷ 3228470301 ∷ 1081675109 ∷ 1078699612 ∷ 3222280230 ∷ 1019448182 ∷ 1064384873 ∷ 3221776748 ∷ 3226195094 ∷ 1079658015 ∷ 3216371333 ∷ 3214260639 ∷ 1067350311 ∷ 1078847674 ∷ 3220731485 ∷ 1070218553 ∷ 1079431577 ∷ 3234115627 ∷ 1075705368 ∷ 3221064482 ∷ [])

unfoldable pub l12 : List Float
l12 = map (of_bits binary32) (1048745130 ∷ 3189617046 ∷ 3191550602 ∷ 3195305334 ∷ 1053114662 ∷ 3191938162 ∷ 3196838647 ∷ 0 ∷ 3206168830 ∷ 1055803958 ∷ 1045854396 ∷ 3196587052 ∷ 1048705762 ∷ 3191208502 ∷ 1039259023 ∷ 0 ∷ 1029370016 ∷ 3196606614 ∷ 1058617554 ∷ 3193790814 ∷ 1043419282 ∷ 1019040582 ∷ 1044878308 ∷ 0 ∷ 3193628816 ∷ 1039575493 ∷ 3155041984 ∷ 1039631668 ∷ 3188602233 ∷ 3210453487 ∷ 1066021643 ∷ 0 ∷ 1006065856 ∷ 1048586384 ∷ 3203023486 ∷ 3208738034 ∷ 1060775987 ∷ 3175919128 ∷ 3207402925 ∷ 0 ∷ 1018643872 ∷ 1032785304 ∷ 1023846484 ∷ 1042908748 ∷ 1040419938 ∷ 1020311328 ∷ 1024427360 ∷ 0 ∷ 1058165559 ∷ 1027352364 ∷ 3188619440 ∷ 1046177910 ∷ 1057105257 ∷ 3199750625 ∷ 1036477671 ∷ 0 ∷ 3201414433 ∷ 3182809466 ∷ 1043009423 ∷ 3196173708 ∷ 3195183988 ∷ 1024090192 ∷ 1014610832 ∷ 0 ∷ [])

unfoldable pub l13 : List Float
l13 = map (of_bits binary32) (3189691922 ∷ 3212943468 ∷ 3200868014 ∷ 3129543424 ∷ 3169150904 ∷ 3189979521 ∷ 3189249860 ∷ 1048090994 ∷ 3198895770 ∷ 1050974582 ∷ 3201435990 ∷ 3165470956 ∷ 1021867744 ∷ 3176552790 ∷ 1041763913 ∷ 1046919013 ∷ 1058153708 ∷ 1050376060 ∷ 1060158786 ∷ 1034575776 ∷ 1054288356 ∷ 1037933435 ∷ 3209025818 ∷ 1038434332 ∷ 1039056348 ∷ 1051525410 ∷ 1055883073 ∷ 1016781720 ∷ 3210448572 ∷ 1007269216 ∷ 1062272483 ∷ 3211820512 ∷ 3207375286 ∷ 3207126587 ∷ 3210154192 ∷ 3199404568 ∷ 1058165113 ∷ 3168695336 ∷ 1027985300 ∷ 1061317372 ∷ 3204545955 ∷ 1026668148 ∷ 1017087200 ∷ 3189518889 ∷ 3184828414 ∷ 1049451682 ∷ 3185574595 ∷ 3175137560 ∷ 1069152543 ∷ 1056016620 ∷ 1051496360 ∷ 1059367396 ∷ 1043579906 ∷ 3205619014 ∷ 3191093570 ∷ 3196332030 ∷ 0 ∷ 0 ∷ 0 ∷ 0 ∷ 0 ∷ 0 ∷ 0 ∷ 0 ∷ [])

unfoldable pub b8_0 : Buffers
b8_0 = record { plane = l9; prior = l7; gradient = l11; across = l12; down = l13; saved = l8 }

unfoldable pub l14 : List Float
l14 = map (of_bits binary32) (1043273730 ∷ 1042015169 ∷ 1051700315 ∷ 3176129139 ∷ 1022402009 ∷ 1046935706 ∷ 3197012944 ∷ 1046448275 ∷ 3177805329 ∷ 3177467262 ∷ 3200712414 ∷ 1041269926 ∷ 3191679485 ∷ 3194122368 ∷ 1049762670 ∷ 3193185289 ∷ 3182102444 ∷ 3207842386 ∷ 1040970756 ∷ 3196526757 ∷ 1039597304 ∷ 1053839031 ∷ 3203269261 ∷ 1053355073 ∷ 1034436369 ∷ 1051197079 ∷ 3196600622 ∷ 1057178695 ∷ 3190277514 ∷ 3177119858 ∷ 3192615258 ∷ 1033794133 ∷ 1052109773 ∷ 1049349051 ∷ 1055318205 ∷ 3176323776 ∷ 3188589300 ∷ 1039135829 ∷ 3193069994 ∷ 3190640964 ∷ 3195097259 ∷ 3188970214 ∷ 3176234021 ∷ 3157943144 ∷ 3205520558 ∷ 1054291006 ∷ 3190968487 ∷ 3181815358 ∷ 3206540451 ∷ 3195272201 ∷ 3196632126 ∷ 3189757207 ∷ 1041455441 ∷ 1038927799 ∷ 1041783447 ∷ 1046943224 ∷ 1057707294 ∷ 3168273291 ∷ 1050407838 ∷ 1044222890 ∷ 3193564726 ∷ 1051041741 ∷ 3199203786 ∷ 1024027435 ∷ [])

unfoldable pub b9_0 : Buffers
b9_0 = record { plane = l14; prior = l7; gradient = l11; across = l12; down = l13; saved = l8 }

unfoldable pub l15 : List Float
l15 = map (of_bits binary32) (1033130133 ∷ 1051069181 ∷ 1050581355 ∷ 3187759586 ∷ 1033282956 ∷ 1047640561 ∷ 3197340961 ∷ 1045811046 ∷ 1042969938 ∷ 3201696406 ∷ 3199104421 ∷ 1050504965 ∷ 3196075313 ∷ 3195222802 ∷ 1047097668 ∷ 3188887634 ∷ 3197749061 ∷ 3201223664 ∷ 1041015905 ∷ 3199836691 ∷ 1021522896 ∷ 1055673464 ∷ 3195590872 ∷ 1046910354 ∷ 1046163193 ∷ 1046461955 ∷ 3200786728 ∷ 1057669487 ∷ 1037299506 ∷ 3190058592 ∷ 3205190120 ∷ 1051426254 ∷ 1049099965 ∷ 1050503178 ∷ 1059635613 ∷ 3185022362 ∷ 3202909200 ∷ 1050763790 ∷ 1025731020 ∷ 3200970951 ∷ 3186525292 ∷ 3194846470 ∷ 3196955797 ∷ 1044121984 ∷ 3200824042 ∷ 1043008972 ∷ 3191585596 ∷ 1006941660 ∷ 3208984634 ∷ 3182794692 ∷ 3186513805 ∷ 3201143082 ∷ 1038612928 ∷ 1052163099 ∷ 3147359064 ∷ 1048887107 ∷ 1058849919 ∷ 3184079100 ∷ 1048310116 ∷ 1050549882 ∷ 3194883529 ∷ 1047198004 ∷ 3196351793 ∷ 979280896 ∷ [])

unfoldable pub l16 : List Float
l16 = map (of_bits binary32) (3155437843 ∷ 970137344 ∷ 3150027744 ∷ 3163451450 ∷ 995240128 ∷ 3167187402 ∷ 1058937456 ∷ 3204448256 ∷ 1018427297 ∷ 1022826294 ∷ 1025992278 ∷ 3169352540 ∷ 1044442796 ∷ 3178610660 ∷ 3188333663 ∷ 1041982757 ∷ 1037722068 ∷ 3187865622 ∷ 1024717342 ∷ 1029840431 ∷ 1022493974 ∷ 973416832 ∷ 1034668760 ∷ 1043978840 ∷ 3171652281 ∷ 1034317047 ∷ 1025441172 ∷ 3181694642 ∷ 3204448256 ∷ 3179297407 ∷ 3188659694 ∷ 3169168837 ∷ 1059496298 ∷ 1065353216 ∷ 1042734851 ∷ 3184410514 ∷ 1032284637 ∷ 3177380984 ∷ 1038800892 ∷ 3186404856 ∷ 3168364198 ∷ 3205135797 ∷ 3190212207 ∷ 3189845459 ∷ 1043778402 ∷ 3212836864 ∷ 3179829578 ∷ 3179111495 ∷ 1028953099 ∷ 1031510050 ∷ 993222144 ∷ 1025912651 ∷ 986377294 ∷ 3185058174 ∷ 1056964608 ∷ 3181653915 ∷ 1038773109 ∷ 3190245834 ∷ 3180418340 ∷ 1020505584 ∷ 3212836864 ∷ 3198938375 ∷ 1056964608 ∷ 1056964608 ∷ [])

unfoldable pub b10_0 : Buffers
b10_0 = record { plane = l15; prior = l7; gradient = l11; across = l15; down = l13; saved = l16 }

pub start_0_0 : starting Each c0 8 8 ≡ b0_0
unfolding low8 c0 b0_0 l0 l1 l2 count_trailing_zeros add sub mul div sum round units odd size span climb of_bits of_fields neg ne eq lt of_int upto mul_add fused square product half midpoint isqrt halves root clamp from_blocks to_blocks on_line idct8 dct8 idct8x8 dct8x8 upsample_pixels lowest highest dequantised mid next_term term_of constants pushed data_alpha gradient_norm moved_by moved difference bump bump_unless tv_differences_at tv_differences g_norm_of tv_channel_derivatives tv_derivatives store tv_gradient_px tv_alpha tv_gradient tgv_differences_at tgv_differences g2_norm_of tgv_beside tgv_up_down tgv_corners tgv_channel_derivatives tgv_derivatives tgv_gradient_px tgv_alpha tgv_gradient blended dequantise image_block image_data init_dct_target init_pixels aux_init cosb_of cosbs_of spread spread_block gradient_block dct_gradient data_gradient mean_of change split_at split clamp_at clamp_block clamped keep onto_box back project_full project_means project_onto_box is_blown pushing data_job blending moving projecting
start_0_0 = refl

pub push_1_0 : pushing k0 b0_0 ≡ b1_0
unfolding low8 c0 b1_0 b0_0 k0 l0 l1 l2 count_trailing_zeros add sub mul div sum round units odd size span climb of_bits of_fields neg ne eq lt of_int upto mul_add fused square product half midpoint isqrt halves root clamp from_blocks to_blocks on_line idct8 dct8 idct8x8 dct8x8 upsample_pixels lowest highest dequantised mid next_term term_of constants pushed data_alpha gradient_norm moved_by moved difference bump bump_unless tv_differences_at tv_differences g_norm_of tv_channel_derivatives tv_derivatives store tv_gradient_px tv_alpha tv_gradient tgv_differences_at tgv_differences g2_norm_of tgv_beside tgv_up_down tgv_corners tgv_channel_derivatives tgv_derivatives tgv_gradient_px tgv_alpha tgv_gradient blended dequantise image_block image_data init_dct_target init_pixels aux_init cosb_of cosbs_of spread spread_block gradient_block dct_gradient data_gradient mean_of change split_at split clamp_at clamp_block clamped keep onto_box back project_full project_means project_onto_box is_blown pushing data_job blending moving projecting
push_1_0 = refl

pub data_2_0 : data_job c0 8 8 (of_bits binary32 1017370378) b1_0 ≡ b2_0
unfolding low8 c0 b2_0 b1_0 k0 l0 l1 l2 count_trailing_zeros add sub mul div sum round units odd size span climb of_bits of_fields neg ne eq lt of_int upto mul_add fused square product half midpoint isqrt halves root clamp from_blocks to_blocks on_line idct8 dct8 idct8x8 dct8x8 upsample_pixels lowest highest dequantised mid next_term term_of constants pushed data_alpha gradient_norm moved_by moved difference bump bump_unless tv_differences_at tv_differences g_norm_of tv_channel_derivatives tv_derivatives store tv_gradient_px tv_alpha tv_gradient tgv_differences_at tgv_differences g2_norm_of tgv_beside tgv_up_down tgv_corners tgv_channel_derivatives tgv_derivatives tgv_gradient_px tgv_alpha tgv_gradient blended dequantise image_block image_data init_dct_target init_pixels aux_init cosb_of cosbs_of spread spread_block gradient_block dct_gradient data_gradient mean_of change split_at split clamp_at clamp_block clamped keep onto_box back project_full project_means project_onto_box is_blown pushing data_job blending moving projecting
data_2_0 = refl

pub blend_3 : blending 8 8 1 (λ c. false) k0 b2_0 ≡ b3_0
unfolding b2_0 b3_0 k0 l0 l1 l2 l3 l4 l5 count_trailing_zeros add sub mul div sum round units odd size span climb of_bits of_fields neg ne eq lt of_int upto mul_add fused square product half midpoint isqrt halves root clamp from_blocks to_blocks on_line idct8 dct8 idct8x8 dct8x8 upsample_pixels lowest highest dequantised mid next_term term_of constants pushed data_alpha gradient_norm moved_by moved difference bump bump_unless tv_differences_at tv_differences g_norm_of tv_channel_derivatives tv_derivatives store tv_gradient_px tv_alpha tv_gradient tgv_differences_at tgv_differences g2_norm_of tgv_beside tgv_up_down tgv_corners tgv_channel_derivatives tgv_derivatives tgv_gradient_px tgv_alpha tgv_gradient blended dequantise image_block image_data init_dct_target init_pixels aux_init cosb_of cosbs_of spread spread_block gradient_block dct_gradient data_gradient mean_of change split_at split clamp_at clamp_block clamped keep onto_box back project_full project_means project_onto_box is_blown pushing data_job blending moving projecting
blend_3 = refl

pub move_4_0 : moving k0 b3_0 ≡ b4_0
unfolding low8 c0 b4_0 b3_0 k0 l0 l2 l3 l4 l5 l6 count_trailing_zeros add sub mul div sum round units odd size span climb of_bits of_fields neg ne eq lt of_int upto mul_add fused square product half midpoint isqrt halves root clamp from_blocks to_blocks on_line idct8 dct8 idct8x8 dct8x8 upsample_pixels lowest highest dequantised mid next_term term_of constants pushed data_alpha gradient_norm moved_by moved difference bump bump_unless tv_differences_at tv_differences g_norm_of tv_channel_derivatives tv_derivatives store tv_gradient_px tv_alpha tv_gradient tgv_differences_at tgv_differences g2_norm_of tgv_beside tgv_up_down tgv_corners tgv_channel_derivatives tgv_derivatives tgv_gradient_px tgv_alpha tgv_gradient blended dequantise image_block image_data init_dct_target init_pixels aux_init cosb_of cosbs_of spread spread_block gradient_block dct_gradient data_gradient mean_of change split_at split clamp_at clamp_block clamped keep onto_box back project_full project_means project_onto_box is_blown pushing data_job blending moving projecting
move_4_0 = refl

pub project_5_0 : projecting c0 8 8 b4_0 ≡ b5_0
unfolding low8 c0 b5_0 b4_0 k0 l0 l2 l3 l4 l5 l6 l7 l8 count_trailing_zeros add sub mul div sum round units odd size span climb of_bits of_fields neg ne eq lt of_int upto mul_add fused square product half midpoint isqrt halves root clamp from_blocks to_blocks on_line idct8 dct8 idct8x8 dct8x8 upsample_pixels lowest highest dequantised mid next_term term_of constants pushed data_alpha gradient_norm moved_by moved difference bump bump_unless tv_differences_at tv_differences g_norm_of tv_channel_derivatives tv_derivatives store tv_gradient_px tv_alpha tv_gradient tgv_differences_at tgv_differences g2_norm_of tgv_beside tgv_up_down tgv_corners tgv_channel_derivatives tgv_derivatives tgv_gradient_px tgv_alpha tgv_gradient blended dequantise image_block image_data init_dct_target init_pixels aux_init cosb_of cosbs_of spread spread_block gradient_block dct_gradient data_gradient mean_of change split_at split clamp_at clamp_block clamped keep onto_box back project_full project_means project_onto_box is_blown pushing data_job blending moving projecting
project_5_0 = refl

pub mark_5_0 : channel_blown low8 0 b5_0 ≡ false
unfolding low8 b5_0 l0 l3 l5 l7 l8 count_trailing_zeros add sub mul div sum round units odd size span climb of_bits of_fields neg ne eq lt of_int upto mul_add fused square product half midpoint isqrt halves root clamp from_blocks to_blocks on_line idct8 dct8 idct8x8 dct8x8 upsample_pixels lowest highest dequantised mid next_term term_of constants pushed data_alpha gradient_norm moved_by moved difference bump bump_unless tv_differences_at tv_differences g_norm_of tv_channel_derivatives tv_derivatives store tv_gradient_px tv_alpha tv_gradient tgv_differences_at tgv_differences g2_norm_of tgv_beside tgv_up_down tgv_corners tgv_channel_derivatives tgv_derivatives tgv_gradient_px tgv_alpha tgv_gradient blended dequantise image_block image_data init_dct_target init_pixels aux_init cosb_of cosbs_of spread spread_block gradient_block dct_gradient data_gradient mean_of change split_at split clamp_at clamp_block clamped keep onto_box back project_full project_means project_onto_box is_blown pushing data_job blending moving projecting
mark_5_0 = refl

pub push_6_0 : pushing k1 b5_0 ≡ b6_0
unfolding low8 c0 b6_0 b5_0 k1 l0 l3 l5 l7 l8 l9 count_trailing_zeros add sub mul div sum round units odd size span climb of_bits of_fields neg ne eq lt of_int upto mul_add fused square product half midpoint isqrt halves root clamp from_blocks to_blocks on_line idct8 dct8 idct8x8 dct8x8 upsample_pixels lowest highest dequantised mid next_term term_of constants pushed data_alpha gradient_norm moved_by moved difference bump bump_unless tv_differences_at tv_differences g_norm_of tv_channel_derivatives tv_derivatives store tv_gradient_px tv_alpha tv_gradient tgv_differences_at tgv_differences g2_norm_of tgv_beside tgv_up_down tgv_corners tgv_channel_derivatives tgv_derivatives tgv_gradient_px tgv_alpha tgv_gradient blended dequantise image_block image_data init_dct_target init_pixels aux_init cosb_of cosbs_of spread spread_block gradient_block dct_gradient data_gradient mean_of change split_at split clamp_at clamp_block clamped keep onto_box back project_full project_means project_onto_box is_blown pushing data_job blending moving projecting
push_6_0 = refl

pub data_7_0 : data_job c0 8 8 (of_bits binary32 1017370378) b6_0 ≡ b7_0
unfolding low8 c0 b7_0 b6_0 k1 l3 l5 l7 l8 l9 l10 count_trailing_zeros add sub mul div sum round units odd size span climb of_bits of_fields neg ne eq lt of_int upto mul_add fused square product half midpoint isqrt halves root clamp from_blocks to_blocks on_line idct8 dct8 idct8x8 dct8x8 upsample_pixels lowest highest dequantised mid next_term term_of constants pushed data_alpha gradient_norm moved_by moved difference bump bump_unless tv_differences_at tv_differences g_norm_of tv_channel_derivatives tv_derivatives store tv_gradient_px tv_alpha tv_gradient tgv_differences_at tgv_differences g2_norm_of tgv_beside tgv_up_down tgv_corners tgv_channel_derivatives tgv_derivatives tgv_gradient_px tgv_alpha tgv_gradient blended dequantise image_block image_data init_dct_target init_pixels aux_init cosb_of cosbs_of spread spread_block gradient_block dct_gradient data_gradient mean_of change split_at split clamp_at clamp_block clamped keep onto_box back project_full project_means project_onto_box is_blown pushing data_job blending moving projecting
data_7_0 = refl

pub blend_8 : blending 8 8 1 (λ c. false) k1 b7_0 ≡ b8_0
unfolding b7_0 b8_0 k1 l5 l7 l8 l9 l10 l11 l12 l13 count_trailing_zeros add sub mul div sum round units odd size span climb of_bits of_fields neg ne eq lt of_int upto mul_add fused square product half midpoint isqrt halves root clamp from_blocks to_blocks on_line idct8 dct8 idct8x8 dct8x8 upsample_pixels lowest highest dequantised mid next_term term_of constants pushed data_alpha gradient_norm moved_by moved difference bump bump_unless tv_differences_at tv_differences g_norm_of tv_channel_derivatives tv_derivatives store tv_gradient_px tv_alpha tv_gradient tgv_differences_at tgv_differences g2_norm_of tgv_beside tgv_up_down tgv_corners tgv_channel_derivatives tgv_derivatives tgv_gradient_px tgv_alpha tgv_gradient blended dequantise image_block image_data init_dct_target init_pixels aux_init cosb_of cosbs_of spread spread_block gradient_block dct_gradient data_gradient mean_of change split_at split clamp_at clamp_block clamped keep onto_box back project_full project_means project_onto_box is_blown pushing data_job blending moving projecting
blend_8 = refl

pub move_9_0 : moving k1 b8_0 ≡ b9_0
unfolding low8 c0 b9_0 b8_0 k1 l7 l8 l9 l11 l12 l13 l14 count_trailing_zeros add sub mul div sum round units odd size span climb of_bits of_fields neg ne eq lt of_int upto mul_add fused square product half midpoint isqrt halves root clamp from_blocks to_blocks on_line idct8 dct8 idct8x8 dct8x8 upsample_pixels lowest highest dequantised mid next_term term_of constants pushed data_alpha gradient_norm moved_by moved difference bump bump_unless tv_differences_at tv_differences g_norm_of tv_channel_derivatives tv_derivatives store tv_gradient_px tv_alpha tv_gradient tgv_differences_at tgv_differences g2_norm_of tgv_beside tgv_up_down tgv_corners tgv_channel_derivatives tgv_derivatives tgv_gradient_px tgv_alpha tgv_gradient blended dequantise image_block image_data init_dct_target init_pixels aux_init cosb_of cosbs_of spread spread_block gradient_block dct_gradient data_gradient mean_of change split_at split clamp_at clamp_block clamped keep onto_box back project_full project_means project_onto_box is_blown pushing data_job blending moving projecting
move_9_0 = refl

pub project_10_0 : projecting c0 8 8 b9_0 ≡ b10_0
unfolding low8 c0 b10_0 b9_0 k1 l7 l8 l11 l12 l13 l14 l15 l16 count_trailing_zeros add sub mul div sum round units odd size span climb of_bits of_fields neg ne eq lt of_int upto mul_add fused square product half midpoint isqrt halves root clamp from_blocks to_blocks on_line idct8 dct8 idct8x8 dct8x8 upsample_pixels lowest highest dequantised mid next_term term_of constants pushed data_alpha gradient_norm moved_by moved difference bump bump_unless tv_differences_at tv_differences g_norm_of tv_channel_derivatives tv_derivatives store tv_gradient_px tv_alpha tv_gradient tgv_differences_at tgv_differences g2_norm_of tgv_beside tgv_up_down tgv_corners tgv_channel_derivatives tgv_derivatives tgv_gradient_px tgv_alpha tgv_gradient blended dequantise image_block image_data init_dct_target init_pixels aux_init cosb_of cosbs_of spread spread_block gradient_block dct_gradient data_gradient mean_of change split_at split clamp_at clamp_block clamped keep onto_box back project_full project_means project_onto_box is_blown pushing data_job blending moving projecting
project_10_0 = refl

pub mark_10_0 : channel_blown low8 0 b10_0 ≡ false
unfolding low8 b10_0 l7 l11 l13 l15 l16 count_trailing_zeros add sub mul div sum round units odd size span climb of_bits of_fields neg ne eq lt of_int upto mul_add fused square product half midpoint isqrt halves root clamp from_blocks to_blocks on_line idct8 dct8 idct8x8 dct8x8 upsample_pixels lowest highest dequantised mid next_term term_of constants pushed data_alpha gradient_norm moved_by moved difference bump bump_unless tv_differences_at tv_differences g_norm_of tv_channel_derivatives tv_derivatives store tv_gradient_px tv_alpha tv_gradient tgv_differences_at tgv_differences g2_norm_of tgv_beside tgv_up_down tgv_corners tgv_channel_derivatives tgv_derivatives tgv_gradient_px tgv_alpha tgv_gradient blended dequantise image_block image_data init_dct_target init_pixels aux_init cosb_of cosbs_of spread spread_block gradient_block dct_gradient data_gradient mean_of change split_at split clamp_at clamp_block clamped keep onto_box back project_full project_means project_onto_box is_blown pushing data_job blending moving projecting
mark_10_0 = refl
